use Rattle.std.proofs.lemmas.Result.{IfOk-weaker}
use Rattle.lg_workers.proofs.Places.{no_none, in_order_is}
use Rattle.lg_workers.proofs.order.in_order.Goals as goal

pub unwrapped-requires : goal.unwrapped-requires
unwrapped-requires g c = no_none g.J.Job.answer c.args.jobs.now _ c.place.ensures

pub returns : goal.returns
returns g c = IfOk-weaker c.unwrapped.result _ _ (λ all is. in_order_is g.J.Job.answer c.args.jobs.now all.items _ c.place.ensures is) c.unwrapped.ensures
