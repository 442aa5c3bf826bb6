use Rattle.std.proofs.Common.{◌≡◌, ◌∙◌, ap, [], Some}
use Rattle.std.proofs.lemmas.Result.{err_from_is_err_and}
use Rattle.lg_circ.specs.declared.tag.Markup.{Markup}
use Rattle.lg_circ.specs.Reading.{nothing, stands, starts, ends, bare, root_at}
use Rattle.lg_circ.specs.Seen.{view_markup}
use Rattle.lg_circ.proofs.Parts.{name_made}
use Rattle.lg_circ.proofs.Growing.{text_judges, judge_fails, root_none}
use Rattle.lg_circ.proofs.judge.judge.Goals as goal

pub returns-in_err-root : goal.returns-in_err-root
returns-in_err-root c =
    let p = err_from_is_err_and c.from_residual.result c.from_residual.ensures.1 in
    rw (p.1, p.2) (judge_fails c.args.text.now c.in_err-root.field-0.0 c.in_err-root.ensures)

pub returns-in-Stands : goal.returns-in-Stands
returns-in-Stands c =
    let name = c.in-Stands.field-0.name.now in
    let attributes = c.in-Stands.field-0.attributes in
    let rest = c.in_ok-root.rest.now in
    let read : root_at c.args.text.now ≡ Some (stands name attributes, rest) = c.in_ok-root.ensures ∙ ap (λ (m : Markup). Some (view_markup m, rest)) c.in-Stands.is in
    text_judges c.args.text.now (stands name attributes, rest) c.end.result c.utf8.text read (c.end.ensures (bare name attributes))

pub returns-in-Starts : goal.returns-in-Starts
returns-in-Starts c =
    let name = c.in-Starts.tag.name.now in
    let attributes = c.in-Starts.tag.attributes in
    let rest = c.in_ok-root.rest.now in
    let read : root_at c.args.text.now ≡ Some (starts name attributes, rest) = c.in_ok-root.ensures ∙ ap (λ (m : Markup). Some (view_markup m, rest)) c.in-Starts.is in
    text_judges c.args.text.now (starts name attributes, rest) c.follow.result c.utf8.text read (c.follow.ensures (bare name attributes) (name_made name attributes [] []))

pub returns-in-Nothing : goal.returns-in-Nothing
returns-in-Nothing c =
    let rest = c.in_ok-root.rest.now in
    let read : root_at c.args.text.now ≡ Some (nothing, rest) = c.in_ok-root.ensures ∙ ap (λ (m : Markup). Some (view_markup m, rest)) c.in-Nothing.is in
    root_none c.args.text.now (nothing, rest) read (λ root h. h)

pub returns : goal.returns
returns c =
    let rest = c.in_ok-root.rest.now in
    let read : root_at c.args.text.now ≡ Some (ends c.in-Ends.field-0.now, rest) = c.in_ok-root.ensures ∙ ap (λ (m : Markup). Some (view_markup m, rest)) c.in-Ends.is in
    root_none c.args.text.now (ends c.in-Ends.field-0.now, rest) read (λ root h. h)
