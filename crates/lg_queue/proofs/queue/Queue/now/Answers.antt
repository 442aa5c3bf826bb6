use Rattle.std.proofs.Common.{subst}
use Rattle.lg_queue.specs.Pending.{IsPending}
use Rattle.lg_queue.proofs.QueueLemmas.{pending}
use Rattle.lg_queue.proofs.queue.Queue.now.Goals as goal

pub returns-clause-pending : goal.returns-clause-pending
returns-clause-pending c = subst IsPending c.self.view_is (pending c.self.inside.outputs c.self.inside.instant c.self.inside.buckets.items c.self.invariant.each)
