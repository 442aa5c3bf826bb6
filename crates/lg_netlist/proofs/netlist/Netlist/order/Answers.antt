-- The graph that is sorted is that of nets and outputs; so the first output that is marked is the first on a cycle, and
-- without one the outputs among the sorted nodes are in order.
use Rattle.std.proofs.Common.{◌≡◌, ◌+◌, ◌<◌, ◌≤◌, ℕ, Bool, List, Option, length, get_or, sym, subst, ◌∙◌, ap, arith}
use Rattle.std.proofs.lemmas.List.{get_or_default}
use Rattle.lg_graph.specs.declared.sorting.Sorted.{Sorted}
use Rattle.lg_graph.specs.Graph.{IsGraph, IsSorted}
use Rattle.lg_netlist.specs.declared.netlist.Netlist.{Netlist}
use Rattle.lg_netlist.specs.Chain.{Output, IsOrder, IsFirstOnCycle}
use Rattle.lg_netlist.specs.Graph.{all_outputs, net_graph, IsNetGraph, IsFirstMarked, outputs_among}
use Rattle.lg_netlist.proofs.NetGraphLemmas.{IsNetGraph-made}
use Rattle.lg_netlist.proofs.OrderLemmas.{IsGraph-made, first_cycle, no_cycle, IsOrder-made}
use Rattle.lg_netlist.proofs.netlist.Netlist.order.Goals as goal

pub sort-requires : goal.sort-requires
sort-requires c =
    subst IsGraph (sym (c.as_slice-2.ensures.value ∙ c.in_ok-graph.ensures)) (IsGraph-made c.args.self.now (net_graph c.args.self.now) (IsNetGraph-made c.args.self.now))

-- what was sorted, as the graph of the netlist
sorted_graph : (n : Netlist) (graph slice : List (List ℕ)) (s : Sorted) → slice ≡ graph → graph ≡ net_graph n → IsSorted slice s → IsSorted (net_graph n) s
sorted_graph n graph slice s e f is = subst (λ (g : List (List ℕ)). IsSorted g s) (e ∙ f) is

-- what the marks say of the outputs of the netlist
marked_outputs : (n : Netlist) (outputs found : List Output) (marks cyclic : List Bool) (r : Option ℕ) → outputs ≡ found → found ≡ all_outputs n → marks ≡ cyclic
    → IsFirstMarked n.nets outputs marks r → IsFirstMarked n.nets (all_outputs n) cyclic r
marked_outputs n outputs found marks cyclic r e f g is =
    subst (λ (bs : List Bool). IsFirstMarked n.nets (all_outputs n) bs r) g (subst (λ (os : List Output). IsFirstMarked n.nets os marks r) (e ∙ f) is)

pub first_marked-requires : goal.first_marked-requires
first_marked-requires c =
    let n = c.args.self.now in
    let sorted = sorted_graph n c.in_ok-graph.graph.items c.as_slice-2.result.now c.in_ok-sorted.sorted c.as_slice-2.ensures.value c.in_ok-graph.ensures c.in_ok-sorted.ensures in
    let marks = sorted.marks in
    let size = (IsNetGraph-made n).size in
    let outputs = ap length (c.as_slice-3.ensures.value ∙ c.in_ok-outputs.ensures) in
    let same = ap length c.as_slice-4.ensures in
    omega arith

pub returns-in-Some-clause-cycle : goal.returns-in-Some-clause-cycle
returns-in-Some-clause-cycle c = λ part e.
    let n = c.args.self.now in
    let sorted = sorted_graph n c.in_ok-graph.graph.items c.as_slice-2.result.now c.in_ok-sorted.sorted c.as_slice-2.ensures.value c.in_ok-graph.ensures c.in_ok-sorted.ensures in
    let first = first_cycle n (net_graph n) c.in_ok-sorted.sorted (IsNetGraph-made n) sorted c.first_marked.result c.in-Some.part c.in-Some.is
    (marked_outputs n c.as_slice-3.result.now c.in_ok-outputs.outputs.items c.as_slice-4.result.now c.in_ok-sorted.sorted.cyclic c.first_marked.result c.as_slice-3.ensures.value c.in_ok-outputs.ensures c.as_slice-4.ensures c.first_marked.ensures) in
    let same : c.in-Some.part ≡ part = cc in
    subst (IsFirstOnCycle n) same first

pub in_order-requires : goal.in_order-requires
in_order-requires c = λ k d less.
    let n = c.args.self.now in
    let sorted = sorted_graph n c.in_ok-graph.graph.items c.as_slice-2.result.now c.in_ok-sorted.sorted c.as_slice-2.ensures.value c.in_ok-graph.ensures c.in_ok-sorted.ensures in
    let size = (IsNetGraph-made n).size in
    let outputs = ap length (c.as_slice-5.ensures.value ∙ c.in_ok-outputs.ensures) in
    let same = ap length c.as_slice-6.ensures in
    let there = sorted.nodes k (omega arith) in
    let value : get_or c.as_slice-6.result.now k d ≡ get_or c.in_ok-sorted.sorted.order k 0 = get_or_default c.as_slice-6.result.now k d 0 less ∙ ap (λ (xs : List ℕ). get_or xs k 0) c.as_slice-6.ensures in
    omega arith

pub returns-clause-order : goal.returns-clause-order
returns-clause-order c =
    let n = c.args.self.now in
    let sorted = sorted_graph n c.in_ok-graph.graph.items c.as_slice-2.result.now c.in_ok-sorted.sorted c.as_slice-2.ensures.value c.in_ok-graph.ensures c.in_ok-sorted.ensures in
    let acyclic = no_cycle n (net_graph n) c.in_ok-sorted.sorted (IsNetGraph-made n) sorted c.first_marked.result c.in_default.is
    (marked_outputs n c.as_slice-3.result.now c.in_ok-outputs.outputs.items c.as_slice-4.result.now c.in_ok-sorted.sorted.cyclic c.first_marked.result c.as_slice-3.ensures.value c.in_ok-outputs.ensures c.as_slice-4.ensures c.first_marked.ensures) in
    subst (IsOrder n)
    (sym (c.in_ok-in_order.ensures ∙ (ap (λ (os : List Output). outputs_among n.nets os c.as_slice-6.result.now) (c.as_slice-5.ensures.value ∙ c.in_ok-outputs.ensures)
    ∙ ap (λ (xs : List ℕ). outputs_among n.nets (all_outputs n) xs) c.as_slice-6.ensures)))
    (IsOrder-made n (net_graph n) c.in_ok-sorted.sorted (IsNetGraph-made n) sorted acyclic)
