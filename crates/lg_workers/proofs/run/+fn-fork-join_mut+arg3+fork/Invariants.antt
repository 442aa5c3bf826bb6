use Rattle.std.proofs.Common.{◌-◌}
use Rattle.lg_workers.proofs.run.+fn-fork-join_mut+arg3+fork.Given as goal

abbrev pub decreases-join_mut+arg3 : goal.decreases-join_mut+arg3
decreases-join_mut+arg3 g l = l.workers - 1

abbrev pub decreases-fork : goal.decreases-fork
decreases-fork g l = l.workers
