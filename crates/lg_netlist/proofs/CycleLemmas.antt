-- Ways through the graph between outputs are chains.
use Rattle.std.proofs.Common.{◌≡◌, ℕ, suc, ◌+◌, ◌<◌, ◌≤◌, List, [], ◌∷◌, ◌++◌, length, refl, sym, subst, ap, ◌∙◌, arith, Some}
use Rattle.std.specs.Prelude.{slice_get}
use Rattle.std.proofs.lemmas.Option.{same_Some, get_or_from_slice_get, slice_get_within}
use Rattle.lg_graph.specs.Graph.{HasArrow, IsWay, Leads}
use Rattle.lg_netlist.specs.declared.netlist.Netlist.{Netlist}
use Rattle.lg_netlist.specs.Chain.{Output, IsOutput, Drives, Reads, Follows, IsChain, IsOnCycle}
use Rattle.lg_netlist.specs.Graph.{all_outputs, IsNetGraph}
use Rattle.lg_netlist.specs.Valid.{IsPort, IsFittingPart}
use Rattle.lg_netlist.proofs.OutputLemmas.{output_at, output_listed}
use Rattle.lg_netlist.proofs.NetGraphLemmas.{bits_are_nets, drives_bits}

-- a net that an output drives is one of the netlist
pub driven_net : (n : Netlist) (o : Output) (net : ℕ) → IsOutput n o → Drives n o net → net < n.nets
driven_net n o net is d =
    let on = (drives_bits n o net is).0 d in
    subst (λ (k : ℕ). k < n.nets) on.2 (bits_are_nets n o is on.0 net on.1)

-- what follows an output leads to it, over a net
pub two_arrows : (n : Netlist) (graph : List (List ℕ)) → IsNetGraph n graph → (earlier later : Output) → (f : Follows n earlier later) → (i j : ℕ)
    → slice_get (all_outputs n) i ≡ Some later → slice_get (all_outputs n) j ≡ Some earlier
    → HasArrow graph (n.nets + i) f.net × HasArrow graph f.net (n.nets + j)
two_arrows n graph g earlier later f i j is_i is_j = (
  (g.from_output i later f.net is_i).1 f.read,
  (g.from_net f.net (n.nets + j) (driven_net n earlier f.net f.is_earlier f.driven)).1 (j, earlier, is_j, refl, f.driven),
)

-- a chain from an output back to another is a way
pub chain_leads : (n : Netlist) (graph : List (List ℕ)) → IsNetGraph n graph → (between : List Output) (o last : Output) (i j : ℕ)
    → slice_get (all_outputs n) i ≡ Some o → slice_get (all_outputs n) j ≡ Some last → IsChain n (o ∷ between ++ last ∷ []) → Leads graph (n.nets + i) (n.nets + j)
chain_leads n graph g [] o last i j is_i is_j chain =
    let f = chain.0 in
    let arrows = two_arrows n graph g last o f i j is_i is_j in
    (f.net ∷ [], (arrows.0, arrows.1))
chain_leads n graph g (next ∷ between) o last i j is_i is_j chain =
    let f = chain.0 in
    let there = output_listed n next f.is_earlier in
    let arrows = two_arrows n graph g next o f i there.0 is_i there.1 in
    let rest = chain_leads n graph g between next last there.0 j there.1 is_j chain.1 in
    (f.net ∷ (n.nets + there.0) ∷ rest.0, (arrows.0, (arrows.1, rest.1)))

-- what two arrows from an output lead over: a net, and an output that it follows
pub two_are_followed : (n : Netlist) (graph : List (List ℕ)) → IsNetGraph n graph → (i : ℕ) (o : Output) (net to : ℕ) → slice_get (all_outputs n) i ≡ Some o
    → net < n.nets → HasArrow graph (n.nets + i) net → HasArrow graph net to → (k : ℕ) × (earlier : Output) × (slice_get (all_outputs n) k ≡ Some earlier) × (to ≡ n.nets + k) × Follows n earlier o
two_are_followed n graph g i o net to is_i less first second =
    let r = (g.from_output i o net is_i).0 first in
    let d = (g.from_net net to less).0 second in
    (d.0, d.1, d.2, d.3, record { is_earlier = output_at n d.0 d.1 d.2; is_later = output_at n i o is_i; net = net; driven = d.4; read = r })

-- a net that an output reads is one of the netlist
pub read_net : (n : Netlist) (o : Output) (net : ℕ) → IsOutput n o → Reads n o net → net < n.nets
read_net n o net is r =
    let fits = n.valid.parts_fit o.0 r.part (slice_get_within n.parts o.0 r.part r.is_part) in
    let part = subst (IsFittingPart n.nets) (get_or_from_slice_get n.parts o.0 r.part r.part r.is_part) fits in
    let port = subst (IsPort n.nets) (get_or_from_slice_get r.part.inputs r.input r.bits [] r.is_input) (part.inputs r.input [] (slice_get_within r.part.inputs r.input r.bits r.is_input)) in
    subst (λ (k : ℕ). k < n.nets) r.on.2 (port.on_nets r.on.0 net r.on.1)

-- a way from an output to another is a chain
pub way_is_chain : (n : Netlist) (graph : List (List ℕ)) → IsNetGraph n graph → (over : List ℕ) (o last : Output) (i j : ℕ)
    → slice_get (all_outputs n) i ≡ Some o → slice_get (all_outputs n) j ≡ Some last → IsWay graph (n.nets + i) over (n.nets + j)
    → (between : List Output) × IsChain n (o ∷ between ++ last ∷ [])
way_is_chain n graph g [] o last i j is_i is_j arrow =
    let r = (g.from_output i o (n.nets + j) is_i).0 arrow in
    let less = read_net n o (n.nets + j) (output_at n i o is_i) r in
    absurd (omega arith)
way_is_chain n graph g (net ∷ []) o last i j is_i is_j way =
    let r = (g.from_output i o net is_i).0 way.0 in
    let t = two_are_followed n graph g i o net (n.nets + j) is_i (read_net n o net (output_at n i o is_i) r) way.0 way.1 in
    let same_place : t.0 ≡ j = let e = t.3 in omega arith in
    let same : t.1 ≡ last = same_Some t.1 last (sym t.2 ∙ (ap (slice_get (all_outputs n)) same_place ∙ is_j)) in
    ([], (subst (λ (q : Output). Follows n q o) same t.4, output_at n j last is_j))
way_is_chain n graph g (net ∷ next ∷ over) o last i j is_i is_j way =
    let r = (g.from_output i o net is_i).0 way.0 in
    let t = two_are_followed n graph g i o net next is_i (read_net n o net (output_at n i o is_i) r) way.0 way.1.0 in
    let rest = way_is_chain n graph g over t.1 last t.0 j t.2 is_j (subst (λ (k : ℕ). IsWay graph k over (n.nets + j)) t.3 way.1.1) in
    (t.1 ∷ rest.0, (t.4, rest.1))

-- an output is on a cycle of chains where its node is on one of ways
pub cycle_leads : (n : Netlist) (graph : List (List ℕ)) → IsNetGraph n graph → (o : Output) (i : ℕ) → slice_get (all_outputs n) i ≡ Some o → IsOnCycle n o → Leads graph (n.nets + i) (n.nets + i)
cycle_leads n graph g o i is cycle = chain_leads n graph g cycle.0 o o i i is is cycle.1

pub leads_cycle : (n : Netlist) (graph : List (List ℕ)) → IsNetGraph n graph → (o : Output) (i : ℕ) → slice_get (all_outputs n) i ≡ Some o → Leads graph (n.nets + i) (n.nets + i) → IsOnCycle n o
leads_cycle n graph g o i is l = way_is_chain n graph g l.0 o o i i is is l.1
