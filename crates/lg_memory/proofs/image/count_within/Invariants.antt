use Rattle.std.proofs.Common.{◌+◌, ◌≤◌, length}
use Rattle.lg_memory.proofs.CountLemmas.{IsCounting}
use Rattle.lg_memory.proofs.image.count_within.Given as goal

abbrev pub invariant-loop-rest : goal.invariant-loop-rest
invariant-loop-rest l = IsCounting (l.most + 1) l.limit l.text l.rest l.count × (l.count ≤ l.limit)

abbrev pub decreases-loop-rest : goal.decreases-loop-rest
decreases-loop-rest l = length l.rest
