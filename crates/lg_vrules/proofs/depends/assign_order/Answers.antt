use Rattle.std.proofs.Common.{◌≡◌, ℕ, true, List, None, map, sym, ap, subst, ◌∙◌, Bor}
use Rattle.lg_graph.specs.Graph.{Graph, IsGraph, IsSorted}
use Rattle.lg_vtree.specs.declared.module.Assign.{Assign}
use Rattle.lg_vtree.specs.declared.module.Module.{Module}
use Rattle.lg_vrules.specs.declared.indexes.Indexes.{Indexes}
use Rattle.lg_vrules.specs.declared.depends.Dependence.TheVariants.{Ordered}
use Rattle.lg_vrules.specs.Rules.{all_differ}
use Rattle.lg_vrules.specs.Depends.{names_read}
use Rattle.lg_vrules.specs.Order.{IsDependence}
use Rattle.lg_vrules.specs.Indexes.{index_under, index_from, indexes_of, first_marked_from, KnowsIndexes}
use Rattle.lg_vrules.proofs.GraphLemmas.{names, graph, is_graph, tells_none, tells_first, tells_order}
use Rattle.lg_vrules.proofs.depends.assign_order.Goals.{in-Some, in-None}
use Rattle.lg_vrules.proofs.depends.assign_order.Goals as goal

-- the graph that is built is that of the assigns
graph_is : (m : Module) (differ : all_differ (names m.assigns) ≡ true) (indexes : Indexes) (assigns : List Assign) (built : Graph) → assigns ≡ m.assigns → KnowsIndexes (names m.assigns) indexes
    → built ≡ map (λ (a : Assign). indexes_of (index_under indexes) (names_read a.value)) assigns → built ≡ graph m differ
graph_is m differ indexes assigns built is knows e =
    let here : index_under indexes ≡ (λ name. index_from 0 (names m.assigns) name) = λ i name. knows.known name i in
    e ∙ (λ i. map (λ (a : Assign). indexes_of (here i) (names_read a.value)) (is i))

known_names : (assigns : List Assign) (m : Module) (texts : List (Bor (List ℕ))) (items : List (Bor (List ℕ))) (indexes : Indexes) → assigns ≡ m.assigns → texts ≡ items
    → map (λ (name : Bor (List ℕ)). name.now) items ≡ names assigns → KnowsIndexes (map (λ (name : Bor (List ℕ)). name.now) texts) indexes → KnowsIndexes (names m.assigns) indexes
known_names assigns m texts items indexes is same e knows = subst (λ (some : List (List ℕ)). KnowsIndexes some indexes) (ap (map (λ (name : Bor (List ℕ)). name.now)) same ∙ (e ∙ ap names is)) knows

pub sort-requires : goal.sort-requires
sort-requires c =
    let m = c.args.«module».now in
    let assigns = c.as_slice-assigns.ensures in
    let knows = known_names c.as_slice-assigns.result.now m c.as_slice.result.now c.in_ok-names.names.items c.in_ok-indexes.indexes assigns c.as_slice.ensures.value c.in_ok-names.ensures c.in_ok-indexes.ensures in
    let same = graph_is m c.requires c.in_ok-indexes.indexes c.as_slice-assigns.result.now c.as_slice-2.result.now assigns knows (c.as_slice-2.ensures.value ∙ c.in_ok-graph.ensures) in
    subst IsGraph (sym same) (is_graph m c.requires)

pub returns : goal.returns
returns c =
    let m = c.args.«module».now in
    let assigns = c.as_slice-assigns.ensures in
    let knows = known_names c.as_slice-assigns.result.now m c.as_slice.result.now c.in_ok-names.names.items c.in_ok-indexes.indexes assigns c.as_slice.ensures.value c.in_ok-names.ensures c.in_ok-indexes.ensures in
    let same = graph_is m c.requires c.in_ok-indexes.indexes c.as_slice-assigns.result.now c.as_slice-2.result.now assigns knows (c.as_slice-2.ensures.value ∙ c.in_ok-graph.ensures) in
    let sorted = c.in_ok-sorted.sorted in
    let is : IsSorted (graph m c.requires) sorted = subst (λ (g : Graph). IsSorted g sorted) same c.in_ok-sorted.ensures in
    let marks : first_marked_from 0 sorted.cyclic ≡ c.first_marked.result = sym (c.first_marked.ensures ∙ ap (first_marked_from 0) c.as_slice-3.ensures) in
    elim c.match-first_marked.branch [
      | in-Some w ↦ subst (IsDependence m) (sym w.result-is) (tells_first m c.requires sorted.cyclic is.marks is.cyclic w.in-Some.at (marks ∙ w.in-Some.is))
      | in-None w ↦
          let none : first_marked_from 0 sorted.cyclic ≡ None = marks ∙ w.in-None.is in
          let acyclic = tells_none m c.requires sorted.cyclic is.marks is.cyclic none in
          let dependence : IsDependence m (Ordered sorted.order) = (acyclic, tells_order m c.requires sorted is acyclic) in
          subst (IsDependence m) (sym w.result-is) dependence
    ]
