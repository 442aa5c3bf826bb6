use Rattle.std.proofs.Common.{◌≡◌, length}
use Rattle.std.specs.Prelude.{All}
use Rattle.lg_netlist.specs.Valid.{IsFittingPart}
use Rattle.lg_netlists_tests.proofs.samples.gates_of.Given as goal

-- one fitting part for each gate so far
abbrev pub invariant-loop-gate : goal.invariant-loop-gate
invariant-loop-gate g l = record { one_each : length l.parts ≡ l.gate-index; fit : All (IsFittingPart 8) l.parts }
