use Rattle.std.proofs.Common.{◌≡◌, List, [], ◌∷◌, ◌++◌, map, take, get_or, Some, refl, sym, ap, ◌∙◌}
use Rattle.std.specs.Prelude.{filter_map, slice_get}
use Rattle.std.proofs.lemmas.List.{map-append}
use Rattle.std.proofs.lemmas.Option.{slice_get-get_or}
use Rattle.lg_vtree.specs.declared.module.Assign.{Assign}
use Rattle.lg_vresolve.specs.declared.resolve.Resolved.{Resolved}
use Rattle.lg_vmachine.specs.declared.term.Term.{Term}
use Rattle.lg_vmeaning.specs.ByName.{term_by}
use Rattle.lg_vmeaning.proofs.CompiledLemmas.{ordered_more}
use Rattle.lg_vmeaning.proofs.compiling.equations.Goals as goal

pub loop-index-preserved : goal.loop-index-preserved
loop-index-preserved c =
    let assigns = c.args.assigns.now in
    let order = c.args.order.now in
    let i = c.loop-index.index-index in
    let index = get_or order i 0 in
    let a = get_or assigns index c.index-assigns-index.result in
    let given = filter_map (slice_get assigns) (take i order) in
    let term = λ (a : Assign). term_by c.args.resolver.now a.value in
    let stands : slice_get assigns index ≡ Some a = slice_get-get_or assigns index c.index-assigns-index.result (c.requires.indexes i 0 c.loop-index-test.true) in
    let more = ordered_more assigns order i 0 index a c.loop-index-test.true refl stands in
    c.in_ok-push.ensures.ok
    ∙ (ap (λ (r : Resolved). c.loop-index.terms ++ r.term ∷ []) c.in_ok-resolve.ensures.term
    ∙ (ap (λ (some : List Term). some ++ term a ∷ []) c.loop-index.invariant ∙ sym (ap (map term) more ∙ map-append term given (a ∷ []))))
