use Rattle.std.proofs.Common.{take}
use Rattle.lg_vectors.specs.Binding.{HaveColumns}
use Rattle.lg_vectors.proofs.binding.bind_rows.Given as goal

-- the pins so far have columns
abbrev pub invariant-loop-pin : goal.invariant-loop-pin
invariant-loop-pin l = HaveColumns l.vector.columns (take l.pin-index l.pins)
