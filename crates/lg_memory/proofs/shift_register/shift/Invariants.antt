use Rattle.lg_memory.proofs.ShiftLemmas.{IsShiftedUpTo}
use Rattle.lg_memory.proofs.shift_register.shift.Given as goal

abbrev pub invariant-loop-stage : goal.invariant-loop-stage
invariant-loop-stage l = IsShiftedUpTo l.fn.si l.fn.stages l.stages l.stage l.carried
