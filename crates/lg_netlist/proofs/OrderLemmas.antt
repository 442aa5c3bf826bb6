-- The outputs among sorted nodes are in order, and the first that is marked is the first on a cycle.
use Rattle.std.proofs.Common.{◌≡◌, ℕ, zero, suc, ◌+◌, ◌-◌, ◌<◌, ◌≤◌, Bool, true, false, List, [], ◌∷◌, ◌++◌, length, get_or, take, drop, refl, sym, subst, ap, ◌∙◌, arith, ◌⊎◌, inl, inr, Option, None, Some, if◌then◌else◌}
use Rattle.std.specs.Prelude.{All, Contains, slice_get, nat_lt}
use Rattle.std.specs.List.{flat_map}
use Rattle.std.proofs.lemmas.Bool.{cases_lt, cases_order, lt-ltb, le-ltb, both_ways}
use Rattle.std.proofs.lemmas.List.{get_or_default, get_or-take, length-take-le, take-take}
use Rattle.std.proofs.lemmas.List.Elements.{Contains-get_or}
use Rattle.std.proofs.lemmas.Option.{same_Some, slice_get-get_or, get_or_from_slice_get, slice_get_within}
use Rattle.lg_graph.specs.declared.sorting.Sorted.{Sorted}
use Rattle.lg_graph.specs.Graph.{IsGraph, HasArrow, IsWay, Leads, IsSorted, StandsBefore as NodeStandsBefore}
use Rattle.lg_netlist.specs.declared.netlist.Netlist.{Netlist}
use Rattle.lg_netlist.specs.Chain.{Output, IsOutput, Follows, IsChain, IsOnCycle, IsFirstOnCycle, StandsBefore, IsOrder}
use Rattle.lg_netlist.specs.Graph.{all_outputs, IsNetGraph, outputs_among, IsFirstMarked, Marked, NoneMarked}
use Rattle.lg_netlist.proofs.OutputLemmas.{output_at, output_listed, outputs_differ, parts_rise}
use Rattle.lg_netlist.proofs.CycleLemmas.{two_arrows, read_net, cycle_leads, leads_cycle}

-- a way with one arrow more, at its beginning or at its end
first_then : (graph : List (List ℕ)) (from by to : ℕ) → HasArrow graph from by → Leads graph by to → Leads graph from to
first_then graph from by to h l = (by ∷ l.0, (h, l.1))

leads_then : (graph : List (List ℕ)) (from by to : ℕ) → Leads graph from by → HasArrow graph by to → Leads graph from to
leads_then graph from by to l h = go from l.0 l.1
  where
    go : (at : ℕ) (over : List ℕ) → IsWay graph at over by → Leads graph at to
    go at [] way = (by ∷ [], (way, h))
    go at (next ∷ more) way = first_then graph at next to way.0 (go next more way.1)

-- ---- the graph of nets and outputs is a graph

pub arrow_inside : (n : Netlist) (graph : List (List ℕ)) → IsNetGraph n graph → (k to : ℕ) → k < length graph → HasArrow graph k to → to < length graph
arrow_inside n graph g k to less h = by_case (cases_lt k n.nets)
  where
    by_case : (k < n.nets) ⊎ (n.nets ≤ k) → to < length graph
    by_case (inl net) =
        let d = (g.from_net k to net).0 h in
        let inside = slice_get_within (all_outputs n) d.0 d.1 d.2 in
        let size = g.size in
        let is = d.3 in
        omega arith
    by_case (inr past) =
        let i = k - n.nets in
        let size = g.size in
        let o = get_or (all_outputs n) i (0, 0) in
        let is : slice_get (all_outputs n) i ≡ Some o = slice_get-get_or (all_outputs n) i (0, 0) (omega arith) in
        let same : k ≡ n.nets + i = omega arith in
        let r = (g.from_output i o to is).0 (subst (λ (j : ℕ). HasArrow graph j to) same h) in
        let net = read_net n o to (output_at n i o is) r in
        omega arith

pub IsGraph-made : (n : Netlist) (graph : List (List ℕ)) → IsNetGraph n graph → IsGraph graph
IsGraph-made n graph g k d less j e inside =
    let same = get_or_default graph k d [] less in
    arrow_inside n graph g k (get_or (get_or graph k d) j e) less (subst (λ (xs : List ℕ). Contains xs (get_or (get_or graph k d) j e)) same (Contains-get_or (get_or graph k d) j e inside))

-- ---- cycles

pub cycle_output : (n : Netlist) (o : Output) → IsOnCycle n o → IsOutput n o
cycle_output n o cycle = go cycle.0 cycle.1
  where
    go : (between : List Output) → IsChain n (o ∷ between ++ o ∷ []) → IsOutput n o
    go [] h = h.0.is_later
    go (next ∷ more) h = h.0.is_later

-- an output's node is marked where the output is on a cycle
marked_on_cycle : (n : Netlist) (graph : List (List ℕ)) (s : Sorted) → IsNetGraph n graph → IsSorted graph s → (o : Output) (k : ℕ) → slice_get (all_outputs n) k ≡ Some o
    → IsOnCycle n o → get_or s.cyclic (n.nets + k) false ≡ true
marked_on_cycle n graph s g sorted o k is cycle =
    let inside = slice_get_within (all_outputs n) k o is in
    let size = g.size in
    (sorted.cyclic (n.nets + k) (omega arith)).1 (cycle_leads n graph g o k is cycle)

pub first_cycle : (n : Netlist) (graph : List (List ℕ)) (s : Sorted) → IsNetGraph n graph → IsSorted graph s → (r : Option ℕ) (part : ℕ) → r ≡ Some part
    → IsFirstMarked n.nets (all_outputs n) s.cyclic r → IsFirstOnCycle n part
first_cycle n graph s g sorted r part e (Marked k o is mark before) =
    let same : o.0 ≡ part = same_Some o.0 part e in
    let inside = slice_get_within (all_outputs n) k o is in
    let size = g.size in
    let cycle = leads_cycle n graph g o k is ((sorted.cyclic (n.nets + k) (omega arith)).0 mark) in
    record {
      output = o.1;
      on_cycle = subst (λ (p : ℕ). IsOnCycle n (p, o.1)) same cycle;
      first = λ other other_cycle. subst (λ (p : ℕ). p ≤ other.0) same (least other other_cycle (output_listed n other (cycle_output n other other_cycle)));
    }
  where
    least : (other : Output) → IsOnCycle n other → (j : ℕ) × (slice_get (all_outputs n) j ≡ Some other) → o.0 ≤ other.0
    least other other_cycle (j, at) = go (cases_order k j)
      where
        go : (k ≡ j) ⊎ ((k < j) ⊎ (j < k)) → o.0 ≤ other.0
        go (inl equal) =
            let same = same_Some o other (sym is ∙ (ap (slice_get (all_outputs n)) equal ∙ at)) in
            let parts = ap (λ (q : Output). q.0) same in
            omega arith
        go (inr (inl later)) = parts_rise n k j o other later is at
        go (inr (inr earlier)) =
            absurd (both_ways (get_or s.cyclic (n.nets + j) false) (before j earlier) (marked_on_cycle n graph s g sorted other j at other_cycle))
first_cycle n graph s g sorted r part e (NoneMarked none) = absurd (cc)

pub no_cycle : (n : Netlist) (graph : List (List ℕ)) (s : Sorted) → IsNetGraph n graph → IsSorted graph s → (r : Option ℕ) → r ≡ None
    → IsFirstMarked n.nets (all_outputs n) s.cyclic r → (o : Output) → IsOnCycle n o → ⊥
no_cycle n graph s g sorted r e (Marked k o is mark before) other cycle = absurd (cc)
no_cycle n graph s g sorted r e (NoneMarked none) other cycle =
    let listed = output_listed n other (cycle_output n other cycle) in
    both_ways (get_or s.cyclic (n.nets + listed.0) false) (none listed.0 (slice_get_within (all_outputs n) listed.0 other listed.1)) (marked_on_cycle n graph s g sorted other listed.0 listed.1 cycle)

-- ---- outputs among nodes

among-net : (nets : ℕ) (outputs : List Output) (x : ℕ) (xs : List ℕ) → x < nets → outputs_among nets outputs (x ∷ xs) ≡ outputs_among nets outputs xs
among-net nets outputs x xs less = ap (λ (b : Bool). (if b then [] else get_or outputs (x - nets) (0, 0) ∷ []) ++ outputs_among nets outputs xs) (lt-ltb x nets less)

among-output : (nets : ℕ) (outputs : List Output) (x : ℕ) (xs : List ℕ) → nets ≤ x → outputs_among nets outputs (x ∷ xs) ≡ get_or outputs (x - nets) (0, 0) ∷ outputs_among nets outputs xs
among-output nets outputs x xs from = ap (λ (b : Bool). (if b then [] else get_or outputs (x - nets) (0, 0) ∷ []) ++ outputs_among nets outputs xs) (le-ltb x nets from)

-- where the output of a node stands
pub node_stands : (nets : ℕ) (outputs : List Output) (nodes : List ℕ) (i : ℕ) → i < length nodes → nets ≤ get_or nodes i 0
    → slice_get (outputs_among nets outputs nodes) (length (outputs_among nets outputs (take i nodes))) ≡ Some (get_or outputs (get_or nodes i 0 - nets) (0, 0))
node_stands nets outputs [] i less from = absurd (omega arith)
node_stands nets outputs (x ∷ xs) zero less from = ap (λ (os : List Output). slice_get os 0) (among-output nets outputs x xs from)
node_stands nets outputs (x ∷ xs) (suc i) less from = by_case (cases_lt x nets) (node_stands nets outputs xs i (omega arith) from)
  where
    by_case : (x < nets) ⊎ (nets ≤ x)
        → slice_get (outputs_among nets outputs xs) (length (outputs_among nets outputs (take i xs))) ≡ Some (get_or outputs (get_or xs i 0 - nets) (0, 0))
        → slice_get (outputs_among nets outputs (x ∷ xs)) (length (outputs_among nets outputs (x ∷ take i xs))) ≡ Some (get_or outputs (get_or xs i 0 - nets) (0, 0))
    by_case (inl net) h = rw (among-net nets outputs x xs net, among-net nets outputs x (take i xs) net) h
    by_case (inr output) h = rw (among-output nets outputs x xs output, among-output nets outputs x (take i xs) output) h

-- where an output comes from
abbrev pub From : ℕ → List Output → List ℕ → ℕ → Output → Type 0
From nets outputs nodes a o =
    (i : ℕ) × (i < length nodes) × (nets ≤ get_or nodes i 0) × (o ≡ get_or outputs (get_or nodes i 0 - nets) (0, 0)) × (a ≡ length (outputs_among nets outputs (take i nodes)))

pub comes_from : (nets : ℕ) (outputs : List Output) (nodes : List ℕ) (a : ℕ) (o : Output) → slice_get (outputs_among nets outputs nodes) a ≡ Some o → From nets outputs nodes a o
comes_from nets outputs [] a o e = absurd (cc)
comes_from nets outputs (x ∷ xs) a o e = by_case (cases_lt x nets) (λ b f. comes_from nets outputs xs b o f)
  where
    by_case : (x < nets) ⊎ (nets ≤ x) → ((b : ℕ) → slice_get (outputs_among nets outputs xs) b ≡ Some o → From nets outputs xs b o) → From nets outputs (x ∷ xs) a o
    by_case (inl net) later =
        let h = later a (ap (λ (os : List Output). slice_get os a) (sym (among-net nets outputs x xs net)) ∙ e) in
        let inside = h.1 in
        (suc h.0, omega arith, h.2, h.3, h.4 ∙ sym (ap length (among-net nets outputs x (take h.0 xs) net)))
    by_case (inr output) later = at a (ap (λ (os : List Output). slice_get os a) (sym (among-output nets outputs x xs output)) ∙ e)
      where
        at : (b : ℕ) → slice_get (get_or outputs (x - nets) (0, 0) ∷ outputs_among nets outputs xs) b ≡ Some o → From nets outputs (x ∷ xs) b o
        at zero f = (0, omega arith, output, sym (same_Some (get_or outputs (x - nets) (0, 0)) o f), refl)
        at (suc b) f =
            let h = later b f in
            let inside = h.1 in
            (suc h.0, omega arith, h.2, h.3, ap suc h.4 ∙ sym (ap length (among-output nets outputs x (take h.0 xs) output)))

-- an earlier node's output stands earlier
pub stands_earlier : (nets : ℕ) (outputs : List Output) (nodes : List ℕ) (i j : ℕ) → i < j → j < length nodes → nets ≤ get_or nodes i 0
    → length (outputs_among nets outputs (take i nodes)) < length (outputs_among nets outputs (take j nodes))
stands_earlier nets outputs nodes i j less inside from =
    let long : length (take j nodes) ≡ j = length-take-le j nodes (omega arith) in
    let at : get_or (take j nodes) i 0 ≡ get_or nodes i 0 = get_or-take j nodes i 0 less in
    let there = node_stands nets outputs (take j nodes) i (omega arith) (omega arith) in
    let same : take i (take j nodes) ≡ take i nodes = take-take i j nodes (omega arith) in
    subst (λ (xs : List ℕ). length (outputs_among nets outputs xs) < length (outputs_among nets outputs (take j nodes))) same
    (slice_get_within (outputs_among nets outputs (take j nodes)) (length (outputs_among nets outputs (take i (take j nodes)))) _ there)

-- ---- the order

pub IsOrder-made : (n : Netlist) (graph : List (List ℕ)) (s : Sorted) → IsNetGraph n graph → IsSorted graph s → ((o : Output) → IsOnCycle n o → ⊥)
    → IsOrder n (outputs_among n.nets (all_outputs n) s.order)
IsOrder-made n graph s g sorted acyclic = record {
  each = λ o is. let listed = output_listed n o is in stands o listed.0 listed.1;
  only = λ a o e. from_is_output o a (comes_from n.nets (all_outputs n) s.order a o e);
  once = λ a b o e f. once o a b (comes_from n.nets (all_outputs n) s.order a o e) (comes_from n.nets (all_outputs n) s.order b o f);
  after = λ a o earlier e f. after o earlier a (comes_from n.nets (all_outputs n) s.order a o e) f (output_listed n earlier f.is_earlier);
}
  where
    -- the output of a node at a place
    output_of : (o : Output) (k i : ℕ) → slice_get (all_outputs n) k ≡ Some o → get_or s.order i 0 ≡ n.nets + k → get_or (all_outputs n) (get_or s.order i 0 - n.nets) (0, 0) ≡ o
    output_of o k i is at =
        let place : get_or s.order i 0 - n.nets ≡ k = omega arith in
        ap (λ (j : ℕ). get_or (all_outputs n) j (0, 0)) place ∙ get_or_from_slice_get (all_outputs n) k o (0, 0) is

    at_node : (o : Output) (k i : ℕ) → slice_get (all_outputs n) k ≡ Some o → i < length s.order → get_or s.order i 0 ≡ n.nets + k
        → slice_get (outputs_among n.nets (all_outputs n) s.order) (length (outputs_among n.nets (all_outputs n) (take i s.order))) ≡ Some o
    at_node o k i is less at = node_stands n.nets (all_outputs n) s.order i less (omega arith) ∙ ap Some (output_of o k i is at)

    stands : (o : Output) (k : ℕ) → slice_get (all_outputs n) k ≡ Some o
        → StandsBefore (outputs_among n.nets (all_outputs n) s.order) (length (outputs_among n.nets (all_outputs n) s.order)) o
    stands o k is =
        let inside = slice_get_within (all_outputs n) k o is in
        let size = g.size in
        let there = sorted.each (n.nets + k) (omega arith) in
        let at = at_node o k there.0 is there.1 there.2 in
        (length (outputs_among n.nets (all_outputs n) (take there.0 s.order)), slice_get_within (outputs_among n.nets (all_outputs n) s.order) (length (outputs_among n.nets (all_outputs n) (take there.0 s.order))) o at, at)

    -- the node of an output that stands somewhere
    listed_at : (o : Output) (a : ℕ) → (f : From n.nets (all_outputs n) s.order a o) → slice_get (all_outputs n) (get_or s.order f.0 0 - n.nets) ≡ Some o
    listed_at o a f =
        let inside = sorted.nodes f.0 f.1 in
        let size = g.size in
        let from = f.2 in
        slice_get-get_or (all_outputs n) (get_or s.order f.0 0 - n.nets) (0, 0) (omega arith) ∙ ap Some (sym f.3)

    from_is_output : (o : Output) (a : ℕ) → From n.nets (all_outputs n) s.order a o → IsOutput n o
    from_is_output o a f = output_at n (get_or s.order f.0 0 - n.nets) o (listed_at o a f)

    once : (o : Output) (a b : ℕ) → From n.nets (all_outputs n) s.order a o → From n.nets (all_outputs n) s.order b o → a ≡ b
    once o a b f h =
        let same = outputs_differ n (get_or s.order f.0 0 - n.nets) (get_or s.order h.0 0 - n.nets) o (listed_at o a f) (listed_at o b h) in
        let low = f.2 in
        let low' = h.2 in
        let place = sorted.once f.0 h.0 f.1 h.1 (omega arith) in
        f.4 ∙ (ap (λ (i : ℕ). length (outputs_among n.nets (all_outputs n) (take i s.order))) place ∙ sym h.4)

    after : (o earlier : Output) (a : ℕ) → From n.nets (all_outputs n) s.order a o → Follows n earlier o → (k : ℕ) × (slice_get (all_outputs n) k ≡ Some earlier)
        → StandsBefore (outputs_among n.nets (all_outputs n) s.order) a earlier
    after o earlier a f follows (k, is_k) =
        let i = get_or s.order f.0 0 - n.nets in
        let low = f.2 in
        let node : get_or s.order f.0 0 ≡ n.nets + i = omega arith in
        let is_i = listed_at o a f in
        let arrows = two_arrows n graph g earlier o follows i k is_i is_k in
        let none = acyclic o in
        let none' = acyclic earlier in
        over_net i node is_i arrows.0 arrows.1 (sorted.back f.0 follows.net f.1 (subst (λ (x : ℕ). HasArrow graph x follows.net) (sym node) arrows.0))
      where
        over_output : (b : ℕ) → b < f.0 → get_or s.order b 0 ≡ follows.net → HasArrow graph follows.net (n.nets + k)
            → NodeStandsBefore s.order b (n.nets + k) ⊎ Leads graph (n.nets + k) (get_or s.order b 0) → StandsBefore (outputs_among n.nets (all_outputs n) s.order) a earlier
        over_output b less at second (inl there) =
            let before = there.1 in
            let here = f.1 in
            let inside : there.0 < length s.order = omega arith in
            let stands = at_node earlier k there.0 is_k inside there.2 in
            let node = there.2 in
            let less = stands_earlier n.nets (all_outputs n) s.order there.0 f.0 (omega arith) f.1 (omega arith) in
            (length (outputs_among n.nets (all_outputs n) (take there.0 s.order)), subst (λ (c : ℕ). length (outputs_among n.nets (all_outputs n) (take there.0 s.order)) < c) (sym f.4) less, stands)
        over_output b less at second (inr back) =
            absurd (acyclic earlier (leads_cycle n graph g earlier k is_k
            (leads_then graph (n.nets + k) follows.net (n.nets + k) (subst (λ (x : ℕ). Leads graph (n.nets + k) x) at back) second)))

        over_net : (i : ℕ) → get_or s.order f.0 0 ≡ n.nets + i → slice_get (all_outputs n) i ≡ Some o → HasArrow graph (n.nets + i) follows.net → HasArrow graph follows.net (n.nets + k)
            → NodeStandsBefore s.order f.0 follows.net ⊎ Leads graph follows.net (get_or s.order f.0 0) → StandsBefore (outputs_among n.nets (all_outputs n) s.order) a earlier
        over_net i node is_i first second (inl there) =
            let before = there.1 in
            let here = f.1 in
            over_output there.0 there.1 there.2 second (sorted.back there.0 (n.nets + k) (omega arith) (subst (λ (x : ℕ). HasArrow graph x (n.nets + k)) (sym there.2) second))
        over_net i node is_i first second (inr back) =
            absurd (acyclic o (leads_cycle n graph g o i is_i (first_then graph (n.nets + i) follows.net (n.nets + i) first (subst (λ (x : ℕ). Leads graph follows.net x) node back))))

-- ---- what has an order has no cycle

chain_stands : (n : Netlist) (outputs : List Output) → IsOrder n outputs → (between : List Output) (o last : Output) (a : ℕ) → slice_get outputs a ≡ Some o
    → IsChain n (o ∷ between ++ last ∷ []) → StandsBefore outputs a last
chain_stands n outputs order [] o last a at chain = order.after a o last at chain.0
chain_stands n outputs order (next ∷ between) o last a at chain =
    let there = order.after a o next at chain.0 in
    let rest = chain_stands n outputs order between next last there.0 there.2 chain.1 in
    let first = there.1 in
    let second = rest.1 in
    (rest.0, omega arith, rest.2)

pub order_acyclic : (n : Netlist) (outputs : List Output) → IsOrder n outputs → (o : Output) → IsOnCycle n o → ⊥
order_acyclic n outputs order o cycle =
    let at = order.each o (cycle_output n o cycle) in
    let earlier = chain_stands n outputs order cycle.0 o o at.0 at.2 cycle.1 in
    let same = order.once earlier.0 at.0 o earlier.2 at.2 in
    let less = earlier.1 in
    absurd (omega arith)
