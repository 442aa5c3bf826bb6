use Rattle.std.proofs.Common.{◌≡◌, ◌++◌, ◌||◌, ap, subst, sym, ◌∙◌}
use Rattle.std.proofs.lemmas.Result.{IfOk-at_ok}
use Rattle.lg_workers.specs.Claims.{drawn_by, is_spent}
use Rattle.lg_workers.specs.Answers.{AreAnswers}
use Rattle.lg_workers.proofs.Places.{both_answers}
use Rattle.lg_workers.proofs.run.together.Goals as goal

pub returns-clause-done : goal.returns-clause-done
returns-clause-done g c =
    let answer = g.J.Job.answer in
    let jobs = c.args.jobs.now in
    let first = c.in_ok-answers.answers.items in
    let second = c.in_ok-others.others.items in
    let theirs = IfOk-at_ok _ c.in_ok-answers.was c.requires.theirs in
    let mine = IfOk-at_ok _ c.in_ok-others.was c.requires.mine in
    let all = both_answers answer jobs (drawn_by c.args.claim.now) (drawn_by c.args.other) first second theirs.1 mine.1 in
    let items : first ++ second ≡ c.append.new.self.items = sym c.in_ok-append.ensures.items in (
      c.join.ensures.spent ∙ ap (λ t. t || is_spent c.args.other) theirs.0,
      subst (λ l. AreAnswers answer jobs (drawn_by c.join.new.claim) l) items (subst (λ l. AreAnswers answer jobs l (first ++ second)) (sym c.join.ensures.list) all),
    )
