use Rattle.std.proofs.Common.{◌-◌, ◌<◌, ◌++◌, ◌∷◌, [], List, ℕ, length, subst, sym, ◌∙◌}
use Rattle.lg_workers.specs.Claims.{drawn_by, jobs_of}
use Rattle.lg_workers.specs.Answers.{IsRight, AreAnswers}
use Rattle.lg_workers.proofs.Past.{past, nearer}
use Rattle.lg_workers.proofs.Places.{one_more, read_right}
use Rattle.lg_workers.proofs.work.work.Goals as goal

pub loop-number-smaller : goal.loop-number-smaller
loop-number-smaller g c =
    let old : List ℕ = drawn_by c.loop-number.claim in
    let some = c.in-Some.ensures.some in
    subst (λ (l : List ℕ). jobs_of c.args.claims.now - past l < jobs_of c.args.claims.now - past old) (sym some.1)
    (nearer (jobs_of c.args.claims.now) old c.in-Some.number some.0 c.in-Some.ensures.rises)

pub loop-number-preserved : goal.loop-number-preserved
loop-number-preserved g c =
    let answer = g.J.Job.answer in
    let jobs = c.args.jobs.now in
    let n = c.in-Some.number in
    let a = c.in_ok-answer.answer in
    let old : List ℕ = drawn_by c.loop-number.claim in
    let some = c.in-Some.ensures.some in
    let of = c.in-Some.ensures.of in
    let inv = c.loop-number.invariant in
    let within : n < length jobs = subst (λ k. n < k) (sym c.requires.jobs) some.0 in
    let right : IsRight answer jobs (n, a) = read_right answer jobs n c.index-jobs-number.result a within c.index-jobs-number.is c.in_ok-answer.ensures in
    let more = one_more answer jobs old c.loop-number.answers.items n a inv.3 right in (
      of.0,
      of.1 ∙ inv.1,
      some.3,
      subst (λ l. AreAnswers answer jobs (drawn_by c.draw.new.claim) l) (sym c.in_ok-push.ensures.items) (subst (λ l. AreAnswers answer jobs l (c.loop-number.answers.items ++ (n, a) ∷ [])) (sym some.1) more),
    )
