use Rattle.std.proofs.Common.{◌≡◌, ◌∙◌, sym, ap, subst, [], Some, arith}
use Rattle.std.specs.Prelude.{IsTrue}
use Rattle.std.proofs.lemmas.Option.{same_Some}
use Rattle.std.proofs.lemmas.Result.{err_from_is_err_and}
use Rattle.lg_circ.specs.declared.element.Element.{Element}
use Rattle.lg_circ.specs.declared.tag.Markup.{Markup}
use Rattle.lg_circ.specs.Tree.{has_levels, greatest_level}
use Rattle.lg_circ.specs.Reading.{nothing, stands, starts, ends, whole, bare, root_at}
use Rattle.lg_circ.specs.Seen.{view_markup}
use Rattle.lg_circ.specs.Grown.{Completes, Stands, Makes}
use Rattle.lg_circ.proofs.Levels.{bare_levels}
use Rattle.lg_circ.proofs.Growing.{text_makes, text_fails, root_none}
use Rattle.lg_circ.proofs.tree.tree.Goals as goal

pub returns-in_err-root : goal.returns-in_err-root
returns-in_err-root c =
    let p = err_from_is_err_and c.from_residual.result c.from_residual.ensures.1 in
    rw (p.1, p.2) (text_fails c.args.text.now c.in_err-root.field-0.0 c.in_err-root.ensures)

pub end-requires : goal.end-requires
end-requires c =
    let name = c.in-Stands.tag.name.now in
    let attributes = c.in-Stands.tag.attributes in
    let same : bare name attributes ≡ c.in_ok-element-in-Stands.field-0 = same_Some _ _ c.in_ok-element-in-Stands.ensures in
    subst (λ (e : Element). IsTrue (has_levels greatest_level e)) same (bare_levels 64 name attributes (omega arith))

pub returns-in_ok-element-in-Stands : goal.returns-in_ok-element-in-Stands
returns-in_ok-element-in-Stands c =
    let name = c.in-Stands.tag.name.now in
    let attributes = c.in-Stands.tag.attributes in
    let rest = c.in_ok-root.rest.now in
    let same : bare name attributes ≡ c.in_ok-element-in-Stands.field-0 = same_Some _ _ c.in_ok-element-in-Stands.ensures in
    let read : root_at c.args.text.now ≡ Some (stands name attributes, rest) = c.in_ok-root.ensures ∙ ap (λ (m : Markup). Some (view_markup m, rest)) c.in-Stands.is in
    text_makes c.args.text.now (stands name attributes, rest) c.end.result c.utf8.text read (subst (λ (e : Element). Makes (Stands (whole e) rest) c.end.result) (sym same) c.end.ensures)

pub returns-in_ok-element-in-Starts : goal.returns-in_ok-element-in-Starts
returns-in_ok-element-in-Starts c =
    let name = c.in-Starts.tag.name.now in
    let attributes = c.in-Starts.tag.attributes in
    let rest = c.in_ok-root.rest.now in
    let same : bare name attributes ≡ c.in_ok-element-in-Starts.field-0 = same_Some _ _ c.in_ok-element-in-Starts.ensures in
    let read : root_at c.args.text.now ≡ Some (starts name attributes, rest) = c.in_ok-root.ensures ∙ ap (λ (m : Markup). Some (view_markup m, rest)) c.in-Starts.is in
    text_makes c.args.text.now (starts name attributes, rest) c.grow.result c.utf8.text read (subst (λ (e : Element). Makes (Completes e [] rest) c.grow.result) (sym same) c.grow.ensures)

pub returns-in-Nothing : goal.returns-in-Nothing
returns-in-Nothing c =
    let rest = c.in_ok-root.rest.now in
    let read : root_at c.args.text.now ≡ Some (nothing, rest) = c.in_ok-root.ensures ∙ ap (λ (m : Markup). Some (view_markup m, rest)) c.in-Nothing.is in
    root_none c.args.text.now (nothing, rest) read (λ root h. h)

pub returns-in-Ends : goal.returns-in-Ends
returns-in-Ends c =
    let rest = c.in_ok-root.rest.now in
    let read : root_at c.args.text.now ≡ Some (ends c.in-Ends.field-0.now, rest) = c.in_ok-root.ensures ∙ ap (λ (m : Markup). Some (view_markup m, rest)) c.in-Ends.is in
    root_none c.args.text.now (ends c.in-Ends.field-0.now, rest) read (λ root h. h)
