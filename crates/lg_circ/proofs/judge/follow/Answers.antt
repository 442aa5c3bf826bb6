use Rattle.std.proofs.Common.{rules, ◌≡◌, ◌∙◌, ◌<◌, ◌∷◌, [], length, eqb, ap, Bor, List, ℕ}
use Rattle.std.proofs.lemmas.Result.{err_from_is_err_and}
use Rattle.lg_circ.specs.Seen.{view_names}
use Rattle.lg_circ.specs.Reading.{bare}
use Rattle.lg_circ.specs.Grown.{Completes}
use Rattle.lg_circ.proofs.Parts.{name_made}
use Rattle.lg_circ.proofs.Names.{names_follow}
use Rattle.lg_circ.proofs.Growing.{follows_start, follows_not, follows_judged, names_pushed, some_names, no_names}
use Rattle.lg_circ.proofs.judge.follow.Goals as goal

pub steps-init : goal.steps-init
steps-init c =
    let start : view_names c.push.new.self.items ≡ c.args.name.now ∷ [] = names_pushed c.new-names.result.items c.push.new.self.items c.args.name c.in_ok-push.ensures.items ∙ ap (λ (ns : List (Bor (List ℕ))). c.args.name.now ∷ view_names ns) c.new-names.ensures.items in
    (c.utf8.inside, λ top called. follows_start top c.args.name.now c.args.inside.now (view_names c.push.new.self.items) called start)

pub returns-in_err-rest : goal.returns-in_err-rest
returns-in_err-rest c =
    let p = err_from_is_err_and c.from_residual-in_err-rest.result c.from_residual-in_err-rest.ensures.1 in
    let some : 0 < length (view_names c.steps.names.items) = some_names c.steps.names.items c.is_empty.result (c.is_empty.ensures ∙ ap (λ (n : ℕ). eqb n 0) c.steps.names.ok.0) c.steps-test.true in
    λ top called. rw (p.1, p.2) (follows_not (Completes top [] c.args.inside.now) (view_names c.steps.names.items) c.steps.rest.now c.in_err-rest.field-0.0 some c.in_err-rest.ensures (c.steps.invariant.1 top called))

pub steps-smaller : goal.steps-smaller
steps-smaller c =
    let some : 0 < length (view_names c.steps.names.items) = some_names c.steps.names.items c.is_empty.result (c.is_empty.ensures ∙ ap (λ (n : ℕ). eqb n 0) c.steps.names.ok.0) c.steps-test.true in
    let top = bare c.args.name.now [] in
    (names_follow (Completes top [] c.args.inside.now) (view_names c.steps.names.items) (view_names c.next.new.names.items) c.steps.rest.now c.in_ok-rest.rest.now some c.in_ok-rest.ensures (c.steps.invariant.1 top (name_made c.args.name.now [] [] []))).1

pub steps-preserved : goal.steps-preserved
steps-preserved c =
    let some : 0 < length (view_names c.steps.names.items) = some_names c.steps.names.items c.is_empty.result (c.is_empty.ensures ∙ ap (λ (n : ℕ). eqb n 0) c.steps.names.ok.0) c.steps-test.true in
    (search rules, λ top called. (names_follow (Completes top [] c.args.inside.now) (view_names c.steps.names.items) (view_names c.next.new.names.items) c.steps.rest.now c.in_ok-rest.rest.now some c.in_ok-rest.ensures (c.steps.invariant.1 top called)).0)

pub returns : goal.returns
returns c = λ top called. follows_judged (Completes top [] c.args.inside.now) (view_names c.steps.names.items) c.steps.rest.now c.end.result (no_names c.steps.names.items c.is_empty.result (c.is_empty.ensures ∙ ap (λ (n : ℕ). eqb n 0) c.steps.names.ok.0) c.steps-test.false) (c.steps.invariant.1 top called) c.end.ensures
