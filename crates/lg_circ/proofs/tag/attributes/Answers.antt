use Rattle.std.proofs.Common.{rules, ◌≡◌, ℕ, List, [], ◌∷◌, ◌++◌, ap, ◌∙◌, suc, length, true, false}
use Rattle.std.proofs.lemmas.Result.{err_from_is_err_and}
use Rattle.lg_circ.specs.Grammar.{is_white}
use Rattle.lg_circ.specs.Reading.{ends_tag, begins, rest_of, attributes_at}
use Rattle.lg_circ.proofs.Loops.{attributes_start, attribute_shorter, attributes_go_on, attributes_fail, attributes_end}
use Rattle.lg_circ.proofs.tag.attributes.Goals as goal

pub attributes-init : goal.attributes-init
attributes-init c = (c.utf8.text, rw c.new-attributes.ensures (attributes_start c.args.text.now))

pub returns-in_err-name : goal.returns-in_err-name
returns-in_err-name c =
    let goes : begins ends_tag (rest_of is_white c.attributes.rest.now) ≡ false = cc in
    let p = err_from_is_err_and c.from_residual.result c.from_residual.ensures.1 in
    rw (p.1, p.2) (attributes_fail c.in_err-name.field-0.0 c.attributes.attributes c.attributes.rest.now (attributes_at (suc (length c.args.text.now)) c.args.text.now) goes c.in_err-name.ensures c.attributes.invariant.1)

pub attributes-smaller : goal.attributes-smaller
attributes-smaller c = attribute_shorter c.attributes.rest.now (c.in_ok-name.name.now, c.in_ok-name.value) c.in_ok-name.behind.now c.in_ok-name.ensures

pub attributes-preserved : goal.attributes-preserved
attributes-preserved c =
    let goes : begins ends_tag (rest_of is_white c.attributes.rest.now) ≡ false = cc in
    let name : c.in_ok-copy_of.field-0 ≡ c.in_ok-name.name.now = c.in_ok-copy_of.ensures in
    let pushed : c.push.new.self ≡ c.attributes.attributes ++ (c.in_ok-name.name.now, c.in_ok-name.value) ∷ [] = c.in_ok-push.ensures.ok ∙ ap (λ (n : List ℕ). c.attributes.attributes ++ (n, c.in_ok-name.value) ∷ []) name in
    (search rules, rw pushed (attributes_go_on c.attributes.attributes c.attributes.rest.now (c.in_ok-name.name.now, c.in_ok-name.value) c.in_ok-name.behind.now (attributes_at (suc (length c.args.text.now)) c.args.text.now) goes c.in_ok-name.ensures c.attributes.invariant.1))

pub returns : goal.returns
returns c =
    let ends : begins ends_tag (rest_of is_white c.attributes.rest.now) ≡ true = cc in
    rw c.skip-2.ensures (attributes_end c.attributes.attributes c.attributes.rest.now (attributes_at (suc (length c.args.text.now)) c.args.text.now) ends c.attributes.invariant.1)
