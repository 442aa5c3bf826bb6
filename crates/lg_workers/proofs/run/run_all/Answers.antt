use Rattle.std.proofs.Common.{rules, ◌≡◌, ℕ, ◌<◌, length, subst, ◌∙◌}
use Rattle.lg_workers.specs.Draws.{times}
use Rattle.lg_workers.specs.Claims.{drawn_by}
use Rattle.lg_workers.proofs.Ended.{each_once}
use Rattle.lg_workers.proofs.Places.{each_answered}
use Rattle.lg_workers.proofs.run.run_all.Goals as goal

pub in_order-requires-clause-each : goal.in_order-requires-clause-each
in_order-requires-clause-each g c κs within =
    let of = c.in_ok-answers.ensures.of in
    let done = c.in_ok-answers.ensures.done in
    each_answered g.J.Job.answer c.args.jobs.now (drawn_by c.fork.new.claim) c.in_ok-answers.answers.items done.1
    (λ n below. each_once c.args.claims.now c.fork.new.claim of.0 (of.1 ∙ c.requires.workers) done.0 n (subst (λ k. n < k) c.requires.jobs below))

pub returns-clause-once : goal.returns-clause-once
returns-clause-once g c =
    let of = c.in_ok-answers.ensures.of in
    let done = c.in_ok-answers.ensures.done in
    let once : (n : ℕ) → n < length c.args.jobs.now → times n (drawn_by c.fork.new.claim) ≡ 1 =
    λ n below. each_once c.args.claims.now c.fork.new.claim of.0 (of.1 ∙ c.requires.workers) done.0 n (subst (λ k. n < k) c.requires.jobs below) in
    search rules
