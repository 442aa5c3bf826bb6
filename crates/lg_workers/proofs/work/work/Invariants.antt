use Rattle.std.proofs.Common.{◌≡◌, ◌-◌, false}
use Rattle.lg_workers.specs.Claims.{drawn_by, shares_of, is_spent, jobs_of, IsOf}
use Rattle.lg_workers.specs.Answers.{AreAnswers}
use Rattle.lg_workers.proofs.Past.{past}
use Rattle.lg_workers.proofs.work.work.Given as goal

abbrev pub invariant-loop-number : goal.invariant-loop-number
invariant-loop-number g l =
    IsOf l.claims l.claim
    × (shares_of l.claim ≡ shares_of l.fn.claim)
    × (is_spent l.claim ≡ false)
    × AreAnswers g.J.Job.answer l.jobs (drawn_by l.claim) l.answers.items

abbrev pub decreases-loop-number : goal.decreases-loop-number
decreases-loop-number g l = jobs_of l.claims - past (drawn_by l.claim)
