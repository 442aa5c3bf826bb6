use Rattle.std.proofs.Common.{rules, ◌≡◌, ◌∙◌, ap, [], List, Some}
use Rattle.std.specs.Prelude.{reverse}
use Rattle.std.proofs.lemmas.Result.{err_from_is_err_and}
use Rattle.lg_circ.specs.declared.element.Element.{Element}
use Rattle.lg_circ.specs.declared.tree.Step.{Step}
use Rattle.lg_circ.specs.Reading.{goes, whole, deep, next_at}
use Rattle.lg_circ.specs.Seen.{around_of, view_step}
use Rattle.lg_circ.specs.Grown.{Completes, Stands}
use Rattle.lg_circ.proofs.Growing.{grows_start, next_shorter, grows_on, grows_whole, grows_deep, grows_not, makes_same}
use Rattle.lg_circ.proofs.tree.grow.Goals as goal

pub steps-init : goal.steps-init
steps-init c = (c.utf8.inside, grows_start c.args.root (reverse c.new.result) c.args.inside.now c.requires (ap (λ (es : List Element). reverse es) c.new.ensures))

pub returns-in_err-step : goal.returns-in_err-step
returns-in_err-step c =
    let p = err_from_is_err_and c.from_residual.result c.from_residual.ensures.1 in
    rw (p.1, p.2) (grows_not (Completes c.args.root [] c.args.inside.now) c.steps.stack.top (around_of c.steps.stack) c.steps.rest.now c.in_err-step.field-0.0 c.in_err-step.ensures c.steps.invariant.1)

pub steps-smaller : goal.steps-smaller
steps-smaller c =
    let read : next_at c.steps.stack.top (around_of c.steps.stack) c.steps.rest.now ≡ Some (goes c.in-On.more.top (around_of c.in-On.more), c.in_ok-step.after.now) = c.in_ok-step.ensures ∙ ap (λ (s : Step). Some (view_step s, c.in_ok-step.after.now)) c.in-On.is in
    next_shorter c.steps.stack.top (around_of c.steps.stack) c.steps.rest.now (goes c.in-On.more.top (around_of c.in-On.more)) c.in_ok-step.after.now read

pub steps-preserved : goal.steps-preserved
steps-preserved c =
    let read : next_at c.steps.stack.top (around_of c.steps.stack) c.steps.rest.now ≡ Some (goes c.in-On.more.top (around_of c.in-On.more), c.in_ok-step.after.now) = c.in_ok-step.ensures ∙ ap (λ (s : Step). Some (view_step s, c.in_ok-step.after.now)) c.in-On.is in
    (search rules, grows_on (Completes c.args.root [] c.args.inside.now) c.steps.stack.top (around_of c.steps.stack) c.steps.rest.now c.in-On.more.top (around_of c.in-On.more) c.in_ok-step.after.now read c.steps.invariant.1)

pub end-requires : goal.end-requires
end-requires c =
    let read : next_at c.steps.stack.top (around_of c.steps.stack) c.steps.rest.now ≡ Some (whole c.in-Whole.root, c.in_ok-step.after.now) = c.in_ok-step.ensures ∙ ap (λ (s : Step). Some (view_step s, c.in_ok-step.after.now)) c.in-Whole.is in
    (grows_whole (Completes c.args.root [] c.args.inside.now) c.steps.stack.top (around_of c.steps.stack) c.steps.rest.now c.in-Whole.root c.in_ok-step.after.now read c.steps.invariant.1).0

pub returns-in-Whole : goal.returns-in-Whole
returns-in-Whole c =
    let IsRoot = Completes c.args.root [] c.args.inside.now in
    let read : next_at c.steps.stack.top (around_of c.steps.stack) c.steps.rest.now ≡ Some (whole c.in-Whole.root, c.in_ok-step.after.now) = c.in_ok-step.ensures ∙ ap (λ (s : Step). Some (view_step s, c.in_ok-step.after.now)) c.in-Whole.is in
    let w = (grows_whole IsRoot c.steps.stack.top (around_of c.steps.stack) c.steps.rest.now c.in-Whole.root c.in_ok-step.after.now read c.steps.invariant.1).1 in
    makes_same (Stands (whole c.in-Whole.root) c.in_ok-step.after.now) IsRoot c.end.result w.from w.to c.end.ensures

pub returns-in-Deep : goal.returns-in-Deep
returns-in-Deep c =
    let read : next_at c.steps.stack.top (around_of c.steps.stack) c.steps.rest.now ≡ Some (deep, c.in_ok-step.after.now) = c.in_ok-step.ensures ∙ ap (λ (s : Step). Some (view_step s, c.in_ok-step.after.now)) c.in-Deep.is in
    grows_deep (Completes c.args.root [] c.args.inside.now) c.steps.stack.top (around_of c.steps.stack) c.steps.rest.now c.in_ok-step.after.now read c.steps.invariant.1
