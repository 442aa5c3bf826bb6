use Rattle.std.proofs.Common.{◌≡◌, map, take}
use Rattle.lg_timing.specs.Instant.{numbered_parts}
use Rattle.lg_instants.specs.Plain.{circuit_of}
use Rattle.lg_instants.specs.Stepping.{steps_from}
use Rattle.lg_instants.proofs.configuration.all_steps.Given as goal

abbrev pub invariant-loop-i : goal.invariant-loop-i
invariant-loop-i g l =
    l.stepped.items ≡ map (steps_from l.states l.before l.now) (take l.i (numbered_parts (circuit_of g.P.Behaviour.meaning l.circuit)))
