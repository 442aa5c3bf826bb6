use Rattle.std.proofs.Common.{rules, inl, ◌≡◌, []}
use Rattle.lg_workers.proofs.Places.{next_placed, place_within, all_placed}
use Rattle.lg_workers.proofs.order.place.Goals as goal

pub loop-number-init : goal.loop-number-init
loop-number-init g c = (c.requires.room, c.requires.right, λ i h. inl (c.requires.each i h))

pub index_mut-requires : goal.index_mut-requires
index_mut-requires g c =
    let within = place_within g.J.Job.answer c.args.jobs.now _ _ _ _ _ c.in-Some.ensures.items c.loop-number.invariant in search rules

pub loop-number-preserved-in-Some : goal.loop-number-preserved-in-Some
loop-number-preserved-in-Some g c = next_placed g.J.Job.answer c.args.jobs.now _ _ _ _ _ c.in-Some.ensures.items c.loop-number.invariant

pub loop-number-preserved : goal.loop-number-preserved
loop-number-preserved g c = next_placed g.J.Job.answer c.args.jobs.now _ _ _ _ _ c.in-Some.ensures.items c.loop-number.invariant

pub returns : goal.returns
returns g c =
    let none : c.loop-number.answers.items ≡ [] = search rules in
    all_placed g.J.Job.answer c.args.jobs.now c.loop-number.slots.items c.loop-number.answers.items none c.loop-number.invariant.0 c.loop-number.invariant.2
