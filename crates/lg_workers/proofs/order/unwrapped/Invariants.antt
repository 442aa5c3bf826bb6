use Rattle.std.proofs.Common.{◌≡◌, map, Some}
use Rattle.lg_workers.proofs.order.unwrapped.Given as goal

abbrev pub invariant-loop-slot : goal.invariant-loop-slot
invariant-loop-slot g l = map (λ it. Some it) l.all.items ≡ l.yielded
