use Rattle.lg_instants.specs.Plain.{circuit_of}
use Rattle.lg_instants.proofs.Busy.{NoneBefore}
use Rattle.lg_instants.proofs.run.is_busy.Given as goal

abbrev pub invariant-loop-i : goal.invariant-loop-i
invariant-loop-i g l = NoneBefore (circuit_of g.P.Behaviour.meaning l.circuit) l.before l.now l.i
