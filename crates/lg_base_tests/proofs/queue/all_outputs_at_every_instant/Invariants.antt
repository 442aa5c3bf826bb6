use Rattle.std.proofs.Common.{◌≡◌}
use Rattle.lg_base_tests.proofs.queue.all_outputs_at_every_instant.Given as goal

abbrev pub invariant-loop-output : goal.invariant-loop-output
invariant-loop-output g l = (l.queue.outputs ≡ l.outputs) × (l.queue.span ≡ 3)

abbrev pub invariant-loop-part : goal.invariant-loop-part
invariant-loop-part g l = (l.queue.outputs ≡ l.outputs) × (l.queue.span ≡ 3)

abbrev pub invariant-loop-instant : goal.invariant-loop-instant
invariant-loop-instant g l = (l.queue.outputs ≡ l.outputs) × (l.queue.span ≡ 3)
