use Rattle.std.proofs.Common.{take}
use Rattle.lg_vectors.specs.Known.{KnowsPins}
use Rattle.lg_vectors.proofs.binding.pin_index.Given as goal

-- the pins so far are known
abbrev pub invariant-loop-at : goal.invariant-loop-at
invariant-loop-at l = KnowsPins (take l.at l.pins) l.index
