use Rattle.std.proofs.Common.{◌≡◌, [], ◌∷◌}
use Rattle.lg_base_tests.proofs.queue.instants_go_round_the_circle.Given as goal

abbrev pub invariant-loop-instant : goal.invariant-loop-instant
invariant-loop-instant g l = (l.queue.outputs ≡ 3 ∷ []) × (l.queue.span ≡ 2)
