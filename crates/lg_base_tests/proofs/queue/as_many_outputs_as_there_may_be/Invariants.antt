use Rattle.std.proofs.Common.{◌≡◌}
use Rattle.lg_base_tests.proofs.queue.as_many_outputs_as_there_may_be.Given as goal

abbrev pub invariant-loop-output : goal.invariant-loop-output
invariant-loop-output g l = (l.queue.outputs ≡ l.outputs) × (l.queue.span ≡ 1)
