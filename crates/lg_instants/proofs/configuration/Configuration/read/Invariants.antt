use Rattle.std.proofs.Common.{◌≡◌, ℕ, List, map, take}
use Rattle.lg_timing.specs.Configuration.{nets_of}
use Rattle.lg_instants.specs.Plain.{circuit_of}
use Rattle.lg_instants.proofs.configuration.Configuration.read.Given as goal

abbrev pub invariant-loop-nets : goal.invariant-loop-nets
invariant-loop-nets g l =
    l.words.items ≡ map (λ (nets : List ℕ). map (nets_of (circuit_of g.P.Behaviour.meaning l.circuit) l.fn.self) nets) (take l.nets-index l.pins)
