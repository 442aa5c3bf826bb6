use Rattle.std.proofs.Common.{◌≡◌, length, take, replicate}
use Rattle.lg_memory.proofs.state.fill.Given as goal

abbrev pub invariant-loop-place : goal.invariant-loop-place
invariant-loop-place l = (length l.words ≡ length l.fn.words) × (take l.place l.words ≡ replicate l.place l.word)
