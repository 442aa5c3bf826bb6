use Rattle.std.proofs.Common.{◌≡◌, map, take}
use Rattle.std.specs.Prelude.{All}
use Rattle.lg_netlist.specs.Valid.{IsFittingPin}
use Rattle.lg_netlists_tests.proofs.samples.pins_on.Given as goal

-- fitting pins with the names so far
abbrev pub invariant-loop-name : goal.invariant-loop-name
invariant-loop-name g l = record { fit : All (IsFittingPin 8) l.found; named : map (λ p. p.name) l.found ≡ take l.name-index l.name-items }
