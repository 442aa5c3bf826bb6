use Rattle.std.proofs.Common.{ap, ◌∙◌}
use Rattle.lg_queue.specs.Pending.{Pending}
use Rattle.lg_queue.proofs.BucketLemmas.{idle_from_none}
use Rattle.lg_queue.proofs.QueueLemmas.{nothing_pending}
use Rattle.lg_queue.proofs.queue.Queue.clear.Goals as goal

pub returns : goal.returns
returns c =
    let s = c.self.inside in
    let none = c.in_default.ensures in
    let now = c.self.view_is ∙ none.item.1 in
    nothing_pending s.outputs c.args.self.now.outputs c.args.instant c.args.self.now.span s.buckets.items
    (idle_from_none s.outputs s.instant s.buckets.items (ap (λ (p : Pending). p.items) now ∙ none.item.0))
    (ap (λ (p : Pending). p.span) now ∙ c.loop.invariant.span)
    (ap (λ (p : Pending). p.outputs) now ∙ c.loop.invariant.outputs)
