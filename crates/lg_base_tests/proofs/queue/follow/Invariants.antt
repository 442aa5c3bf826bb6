use Rattle.std.proofs.Common.{◌≡◌}
use Rattle.lg_base_tests.proofs.queue.follow.Given as goal

abbrev pub invariant-loop-step : goal.invariant-loop-step
invariant-loop-step g l = (l.queue.outputs ≡ l.outputs) × (l.queue.span ≡ l.span)
