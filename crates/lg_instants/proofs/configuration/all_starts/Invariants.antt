use Rattle.std.proofs.Common.{◌≡◌, map, take}
use Rattle.lg_timing.specs.Instant.{numbered_parts}
use Rattle.lg_instants.specs.Plain.{circuit_of}
use Rattle.lg_instants.specs.Stepping.{starts_from}
use Rattle.lg_instants.proofs.configuration.all_starts.Given as goal

abbrev pub invariant-loop-i : goal.invariant-loop-i
invariant-loop-i g l =
    l.states.items ≡ map (starts_from l.now) (take l.i (numbered_parts (circuit_of g.P.Behaviour.meaning l.circuit)))
