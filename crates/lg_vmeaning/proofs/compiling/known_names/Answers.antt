use Rattle.std.proofs.Common.{◌≡◌, ℕ, List, [], ◌∷◌, ◌++◌, map, take, get_or, Some, refl, sym, ap, ◌∙◌, append_assoc}
use Rattle.std.specs.Prelude.{filter_map, slice_get}
use Rattle.std.proofs.lemmas.List.{map-append}
use Rattle.std.proofs.lemmas.Option.{slice_get-get_or}
use Rattle.lg_vtree.specs.declared.module.Assign.{Assign}
use Rattle.lg_vmeaning.specs.declared.ports.PortLine.{PortLine}
use Rattle.lg_vmeaning.proofs.CompiledLemmas.{texts, ordered_more}
use Rattle.lg_vmeaning.proofs.compiling.known_names.Goals as goal

abbrev names_of_assigns : List Assign → List (List ℕ)
names_of_assigns assigns = map (λ (a : Assign). a.name) assigns

pub loop-index-preserved : goal.loop-index-preserved
loop-index-preserved c =
    let assigns = c.args.assigns.now in
    let order = c.args.order.now in
    let i = c.loop-index.index-index in
    let index = get_or order i 0 in
    let a = get_or assigns index c.index-assigns-index.result in
    let front = map (λ (l : PortLine). l.name) c.args.inputs.now ++ texts c.args.registers.now in
    let given = filter_map (slice_get assigns) (take i order) in
    let stands : slice_get assigns index ≡ Some a = slice_get-get_or assigns index c.index-assigns-index.result (c.requires i 0 c.loop-index-test.true) in
    let more = ordered_more assigns order i 0 index a c.loop-index-test.true refl stands in
    ap texts c.in_ok-push-3.ensures.items
    ∙ (map-append (λ name. name.now) c.loop-index.names.items (c.as_str-in-loop-index.result ∷ [])
    ∙ (ap (λ (n : List ℕ). texts c.loop-index.names.items ++ n ∷ []) c.as_str-in-loop-index.ensures.spelling
    ∙ (ap (λ (some : List (List ℕ)). some ++ a.name ∷ []) c.loop-index.invariant
    ∙ (append_assoc front (names_of_assigns given) (a.name ∷ [])
    ∙ ap (λ (some : List (List ℕ)). front ++ some) (sym (ap names_of_assigns more ∙ map-append (λ (a : Assign). a.name) given (a ∷ [])))))))
