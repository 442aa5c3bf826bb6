use Rattle.std.proofs.Common.{◌≡◌, length, take}
use Rattle.lg_memory.proofs.shift_register.load.Given as goal

abbrev pub invariant-loop-stage : goal.invariant-loop-stage
invariant-loop-stage l = (length l.stages ≡ length l.loaded) × (take l.stage l.stages ≡ take l.stage l.loaded)
