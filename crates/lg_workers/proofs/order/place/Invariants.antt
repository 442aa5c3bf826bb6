use Rattle.std.proofs.Common.{length}
use Rattle.lg_workers.proofs.Places.{ArePlaced}
use Rattle.lg_workers.proofs.order.place.Given as goal

abbrev pub invariant-loop-number : goal.invariant-loop-number
invariant-loop-number g l = ArePlaced g.J.Job.answer l.jobs l.slots.items l.answers.items

abbrev pub decreases-loop-number : goal.decreases-loop-number
decreases-loop-number g l = length l.answers.items
