use Rattle.std.proofs.Common.{sym, ap, ◌∙◌}
use Rattle.lg_queue.specs.Pending.{Pending, first_instant}
use Rattle.lg_queue.proofs.BucketLemmas.{items_idle, instant_of_first}
use Rattle.lg_queue.proofs.queue.Queue.first.Goals as goal

pub returns-in_err-ahead : goal.returns-in_err-ahead
returns-in_err-ahead c =
    let idle = items_idle c.self.inside.outputs c.self.inside.instant c.self.inside.buckets.items c.in_err-ahead.ensures.none in
    c.from_residual.ensures ∙ ap first_instant (sym idle) ∙ ap (λ (p : Pending). first_instant p.items) c.self.view_is

pub returns : goal.returns
returns c =
    sym (instant_of_first c.self.inside.outputs c.self.inside.instant c.self.inside.buckets.items c.in_ok-ahead.ahead c.in_ok-ahead.ensures.some)
    ∙ ap (λ (p : Pending). first_instant p.items) c.self.view_is
