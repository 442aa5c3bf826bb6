use Rattle.std.proofs.Common.{◌≡◌}
use Rattle.lg_timing.specs.Configuration.{going_on}
use Rattle.lg_instants.specs.Plain.{circuit_of}
use Rattle.lg_instants.proofs.configuration.Configuration.go_on.Given as goal

abbrev pub invariant-loop-i : goal.invariant-loop-i
invariant-loop-i g l = l.configuration ≡ going_on (circuit_of g.P.Behaviour.meaning l.circuit) l.stimuli l.at l.fn.self l.i
