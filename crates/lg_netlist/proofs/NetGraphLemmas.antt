-- The graph of nets and outputs: an output leads to what it reads, a net to what drives it.
use Rattle.std.proofs.Common.{◌≡◌, ℕ, zero, suc, ◌+◌, ◌-◌, ◌<◌, ◌≤◌, ◌^◌, ◌↔◌, Bool, true, false, List, [], ◌∷◌, ◌++◌, length, get_or, set, refl, sym, subst, ap, ◌∙◌, arith, ◌⊎◌, inl, inr, Option, None, Some, if◌then◌else◌}
use Rattle.std.specs.Prelude.{All, Contains, map, replicate, slice_get}
use Rattle.std.specs.List.{flat_map, enumerate_from}
use Rattle.std.proofs.lemmas.Bool.{cases_eq, cases_lt, cases_Bool}
use Rattle.std.proofs.lemmas.List.{get_or-set_same, get_or-set_other, get_or_append_left, get_or-append_right, get_or-replicate, get_or-map, length-set, length-append, length-map, length-replicate}
use Rattle.std.proofs.lemmas.List.Elements.{All-head, All-tail, Contains-append_left, Contains-append_right, Contains-append_cases, Contains-push, Contains-push_cases}
use Rattle.std.proofs.lemmas.Option.{same_Some, slice_get-get_or, get_or_from_slice_get, slice_get_within}
use Rattle.lg_graph.specs.Graph.{HasArrow}
use Rattle.lg_graph.proofs.Ways.{nothing, Contains-cons_cases}
use Rattle.lg_netlist.specs.declared.netlist.Cell.{Cell}
use Rattle.lg_netlist.specs.declared.netlist.Cell.TheVariants.{Not, And, Or}
use Rattle.lg_netlist.specs.declared.netlist.PartUse.{PartUse}
use Rattle.lg_netlist.specs.declared.netlist.Netlist.{Netlist}
use Rattle.lg_netlist.specs.Cell.{reads}
use Rattle.lg_netlist.specs.Chain.{Output, IsOutput, Drives, Reads}
use Rattle.lg_netlist.specs.Drivers.{numbered}
use Rattle.lg_netlist.specs.Graph.{all_outputs, IsNetGraph, read_nets, with_arrows, part_of, bits_of, with_outputs, net_graph}
use Rattle.lg_netlist.specs.Valid.{AreNets, IsPort, IsFittingPart, TakesInputs}
use Rattle.lg_netlist.proofs.OutputLemmas.{output_at}

-- ---- arrows from the nets of one output

pub length-with_arrows : (node : ℕ) (bits : List ℕ) (graph : List (List ℕ)) → length (with_arrows node bits graph) ≡ length graph
length-with_arrows node [] graph = refl
length-with_arrows node (net ∷ bits) graph =
    length-with_arrows node bits (set graph net (get_or graph net [] ++ node ∷ [])) ∙ length-set graph net (get_or graph net [] ++ node ∷ [])

-- one arrow more
one_arrow : (node net : ℕ) (graph : List (List ℕ)) (at to : ℕ) → net < length graph
    → Contains (get_or (set graph net (get_or graph net [] ++ node ∷ [])) at []) to ↔ (Contains (get_or graph at []) to ⊎ ((to ≡ node) × (net ≡ at)))
one_arrow node net graph at to less = by_case (cases_eq at net)
  where
    by_case : (at ≡ net) ⊎ (at ≡ net → ⊥)
        → Contains (get_or (set graph net (get_or graph net [] ++ node ∷ [])) at []) to ↔ (Contains (get_or graph at []) to ⊎ ((to ≡ node) × (net ≡ at)))
    by_case (inl e) =
        subst (λ (k : ℕ). Contains (get_or (set graph net (get_or graph net [] ++ node ∷ [])) k []) to ↔ (Contains (get_or graph k []) to ⊎ ((to ≡ node) × (net ≡ k)))) (sym e)
        (subst (λ (xs : List ℕ). Contains xs to ↔ (Contains (get_or graph net []) to ⊎ ((to ≡ node) × (net ≡ net)))) (sym (get_or-set_same graph net (get_or graph net [] ++ node ∷ []) [] less))
        (forth, back))
      where
        forth : Contains (get_or graph net [] ++ node ∷ []) to → Contains (get_or graph net []) to ⊎ ((to ≡ node) × (net ≡ net))
        forth h = go (Contains-push_cases (get_or graph net []) node to h)
          where
            go : Contains (get_or graph net []) to ⊎ (node ≡ to) → Contains (get_or graph net []) to ⊎ ((to ≡ node) × (net ≡ net))
            go (inl old) = inl old
            go (inr new) = inr (sym new, refl)

        back : Contains (get_or graph net []) to ⊎ ((to ≡ node) × (net ≡ net)) → Contains (get_or graph net [] ++ node ∷ []) to
        back (inl old) = Contains-append_left (get_or graph net []) (node ∷ []) to old
        back (inr new) = subst (λ (t : ℕ). Contains (get_or graph net [] ++ node ∷ []) t) (sym new.0) (Contains-push (get_or graph net []) node)
    by_case (inr ne) =
        subst (λ (xs : List ℕ). Contains xs to ↔ (Contains (get_or graph at []) to ⊎ ((to ≡ node) × (net ≡ at)))) (sym (get_or-set_other graph net at (get_or graph net [] ++ node ∷ []) [] ne))
        (inl, λ h. old h)
      where
        old : Contains (get_or graph at []) to ⊎ ((to ≡ node) × (net ≡ at)) → Contains (get_or graph at []) to
        old (inl h) = h
        old (inr h) = absurd (ne (sym h.1))

pub arrows_put : (node : ℕ) (bits : List ℕ) (graph : List (List ℕ)) (at to : ℕ) → AreNets (length graph) bits
    → Contains (get_or (with_arrows node bits graph) at []) to ↔ (Contains (get_or graph at []) to ⊎ ((to ≡ node) × Contains bits at))
arrows_put node [] graph at to within = (inl, λ h. go h)
  where
    go : Contains (get_or graph at []) to ⊎ ((to ≡ node) × Contains [] at) → Contains (get_or graph at []) to
    go (inl h) = h
    go (inr h) = absurd (nothing h.1)
arrows_put node (net ∷ bits) graph at to within =
    let less : net < length graph = All-head (λ (m : ℕ). m < length graph) net bits within in
    let rest : AreNets (length graph) bits = All-tail (λ (m : ℕ). m < length graph) net bits within in
    let next = set graph net (get_or graph net [] ++ node ∷ []) in
    let kept : AreNets (length next) bits = subst (λ (k : ℕ). AreNets k bits) (sym (length-set graph net (get_or graph net [] ++ node ∷ []))) rest in
    let one = one_arrow node net graph at to less in
    let more = arrows_put node bits next at to kept in
    (λ h. forth one (more.0 h), λ h. more.1 (back one h))
  where
    forth : Contains (get_or (set graph net (get_or graph net [] ++ node ∷ [])) at []) to ↔ (Contains (get_or graph at []) to ⊎ ((to ≡ node) × (net ≡ at)))
        → Contains (get_or (set graph net (get_or graph net [] ++ node ∷ [])) at []) to ⊎ ((to ≡ node) × Contains bits at)
        → Contains (get_or graph at []) to ⊎ ((to ≡ node) × Contains (net ∷ bits) at)
    forth one (inl h) = go (one.0 h)
      where
        go : Contains (get_or graph at []) to ⊎ ((to ≡ node) × (net ≡ at)) → Contains (get_or graph at []) to ⊎ ((to ≡ node) × Contains (net ∷ bits) at)
        go (inl old) = inl old
        go (inr new) = inr (new.0, (0, omega arith, new.1))
    forth one (inr h) = inr (h.0, Contains-append_right (net ∷ []) bits at h.1)

    back : Contains (get_or (set graph net (get_or graph net [] ++ node ∷ [])) at []) to ↔ (Contains (get_or graph at []) to ⊎ ((to ≡ node) × (net ≡ at)))
        → Contains (get_or graph at []) to ⊎ ((to ≡ node) × Contains (net ∷ bits) at)
        → Contains (get_or (set graph net (get_or graph net [] ++ node ∷ [])) at []) to ⊎ ((to ≡ node) × Contains bits at)
    back one (inl h) = inl (one.1 (inl h))
    back one (inr h) = go (Contains-cons_cases net bits at h.1)
      where
        go : (net ≡ at) ⊎ Contains bits at → Contains (get_or (set graph net (get_or graph net [] ++ node ∷ [])) at []) to ⊎ ((to ≡ node) × Contains bits at)
        go (inl here) = inl (one.1 (inr (h.0, here)))
        go (inr later) = inr (h.0, later)

-- ---- arrows from the nets of all outputs

pub length-with_outputs : (parts : List PartUse) (node : ℕ) (outputs : List Output) (graph : List (List ℕ)) → length (with_outputs parts node outputs graph) ≡ length graph
length-with_outputs parts node [] graph = refl
length-with_outputs parts node (o ∷ outputs) graph =
    length-with_outputs parts (node + 1) outputs (with_arrows node (bits_of parts o) graph) ∙ length-with_arrows node (bits_of parts o) graph

-- one of these outputs drives the net, and this is its node
abbrev pub HasDriver : List PartUse → ℕ → List Output → ℕ → ℕ → Type 0
HasDriver parts node outputs net to = (j : ℕ) × (o : Output) × (slice_get outputs j ≡ Some o) × (to ≡ node + j) × Contains (bits_of parts o) net

pub outputs_put : (parts : List PartUse) (node : ℕ) (outputs : List Output) (graph : List (List ℕ)) (at to : ℕ) → All (λ o. AreNets (length graph) (bits_of parts o)) outputs
    → Contains (get_or (with_outputs parts node outputs graph) at []) to ↔ (Contains (get_or graph at []) to ⊎ HasDriver parts node outputs at to)
outputs_put parts node [] graph at to within = (inl, λ h. go h)
  where
    go : Contains (get_or graph at []) to ⊎ HasDriver parts node [] at to → Contains (get_or graph at []) to
    go (inl h) = h
    go (inr h) = let e = h.2 in absurd (cc)
outputs_put parts node (o ∷ outputs) graph at to within =
    let here : AreNets (length graph) (bits_of parts o) = All-head (λ o. AreNets (length graph) (bits_of parts o)) o outputs within in
    let rest = All-tail (λ o. AreNets (length graph) (bits_of parts o)) o outputs within in
    let next = with_arrows node (bits_of parts o) graph in
    let kept : All (λ o. AreNets (length next) (bits_of parts o)) outputs =
    subst (λ (k : ℕ). All (λ o. AreNets k (bits_of parts o)) outputs) (sym (length-with_arrows node (bits_of parts o) graph)) rest in
    let one = arrows_put node (bits_of parts o) graph at to here in
    let more = outputs_put parts (node + 1) outputs next at to kept in
    (λ h. forth one (more.0 h), λ h. more.1 (back one h))
  where
    forth : Contains (get_or (with_arrows node (bits_of parts o) graph) at []) to ↔ (Contains (get_or graph at []) to ⊎ ((to ≡ node) × Contains (bits_of parts o) at))
        → Contains (get_or (with_arrows node (bits_of parts o) graph) at []) to ⊎ HasDriver parts (node + 1) outputs at to
        → Contains (get_or graph at []) to ⊎ HasDriver parts node (o ∷ outputs) at to
    forth one (inl h) = go (one.0 h)
      where
        go : Contains (get_or graph at []) to ⊎ ((to ≡ node) × Contains (bits_of parts o) at) → Contains (get_or graph at []) to ⊎ HasDriver parts node (o ∷ outputs) at to
        go (inl old) = inl old
        go (inr new) = let same = new.0 in inr (0, o, refl, omega arith, new.1)
    forth one (inr h) = let same = h.3 in inr (suc h.0, h.1, h.2, omega arith, h.4)

    back : Contains (get_or (with_arrows node (bits_of parts o) graph) at []) to ↔ (Contains (get_or graph at []) to ⊎ ((to ≡ node) × Contains (bits_of parts o) at))
        → Contains (get_or graph at []) to ⊎ HasDriver parts node (o ∷ outputs) at to
        → Contains (get_or (with_arrows node (bits_of parts o) graph) at []) to ⊎ HasDriver parts (node + 1) outputs at to
    back one (inl h) = inl (one.1 (inl h))
    back one (inr (zero, d, e, node_is, on)) =
        let same = same_Some o d e in
        inl (one.1 (inr (omega arith, subst (λ (q : Output). Contains (bits_of parts q) at) (sym same) on)))
    back one (inr (suc j, d, e, node_is, on)) = inr (j, d, e, omega arith, on)

-- ---- the nets that an output reads

-- an input that the output reads has a bit on the net
abbrev pub HasRead : PartUse → ℕ → ℕ → List (List ℕ) → ℕ → Type 0
HasRead p output from inputs net = (i : ℕ) × (bits : List ℕ) × (slice_get inputs i ≡ Some bits) × (reads p.cell output (from + i) ≡ true) × Contains bits net

reads_from : (p : PartUse) (output from : ℕ) (inputs : List (List ℕ)) (net : ℕ)
    → Contains (flat_map (λ (i : ℕ × List ℕ). if reads p.cell output i.0 then i.1 else []) (enumerate_from from inputs)) net ↔ HasRead p output from inputs net
reads_from p output from [] net = (λ h. absurd (nothing h), λ h. let e = h.2 in absurd (cc))
reads_from p output from (bits ∷ inputs) net =
    let more = reads_from p output (from + 1) inputs net in
    by_case more (reads p.cell output from) refl
  where
    forth_later : HasRead p output (from + 1) inputs net → HasRead p output from (bits ∷ inputs) net
    forth_later h = (suc h.0, h.1, h.2, subst (λ (k : ℕ). reads p.cell output k ≡ true) (omega arith) h.3, h.4)

    by_case : Contains (flat_map (λ (i : ℕ × List ℕ). if reads p.cell output i.0 then i.1 else []) (enumerate_from (from + 1) inputs)) net ↔ HasRead p output (from + 1) inputs net
        → (b : Bool) → reads p.cell output from ≡ b
        → Contains (flat_map (λ (i : ℕ × List ℕ). if reads p.cell output i.0 then i.1 else []) (enumerate_from from (bits ∷ inputs))) net ↔ HasRead p output from (bits ∷ inputs) net
    by_case more true e =
        subst (λ (b : Bool). Contains ((if b then bits else []) ++ flat_map (λ (i : ℕ × List ℕ). if reads p.cell output i.0 then i.1 else []) (enumerate_from (from + 1) inputs)) net
        ↔ HasRead p output from (bits ∷ inputs) net) (sym e)
        (λ h. forth (Contains-append_cases bits (flat_map (λ (i : ℕ × List ℕ). if reads p.cell output i.0 then i.1 else []) (enumerate_from (from + 1) inputs)) net h), λ h. back h)
      where
        forth : Contains bits net ⊎ Contains (flat_map (λ (i : ℕ × List ℕ). if reads p.cell output i.0 then i.1 else []) (enumerate_from (from + 1) inputs)) net
            → HasRead p output from (bits ∷ inputs) net
        forth (inl h) = (0, bits, refl, subst (λ (k : ℕ). reads p.cell output k ≡ true) (omega arith) e, h)
        forth (inr h) = forth_later (more.0 h)

        back : HasRead p output from (bits ∷ inputs) net
            → Contains (bits ++ flat_map (λ (i : ℕ × List ℕ). if reads p.cell output i.0 then i.1 else []) (enumerate_from (from + 1) inputs)) net
        back (zero, found, is, reads_it, on) =
            Contains-append_left bits (flat_map (λ (i : ℕ × List ℕ). if reads p.cell output i.0 then i.1 else []) (enumerate_from (from + 1) inputs)) net
            (subst (λ (xs : List ℕ). Contains xs net) (sym (same_Some bits found is)) on)
        back (suc i, found, is, reads_it, on) =
            Contains-append_right bits (flat_map (λ (i : ℕ × List ℕ). if reads p.cell output i.0 then i.1 else []) (enumerate_from (from + 1) inputs)) net
            (more.1 (i, found, is, subst (λ (k : ℕ). reads p.cell output k ≡ true) (omega arith) reads_it, on))
    by_case more false e =
        subst (λ (b : Bool). Contains ((if b then bits else []) ++ flat_map (λ (i : ℕ × List ℕ). if reads p.cell output i.0 then i.1 else []) (enumerate_from (from + 1) inputs)) net
        ↔ HasRead p output from (bits ∷ inputs) net) (sym e)
        (λ h. forth_later (more.0 h), λ h. more.1 (back h))
      where
        back : HasRead p output from (bits ∷ inputs) net → HasRead p output (from + 1) inputs net
        back (zero, found, is, reads_it, on) =
            let there : reads p.cell output from ≡ true = subst (λ (k : ℕ). reads p.cell output k ≡ true) (omega arith) reads_it in
            let no : false ≡ true = sym e ∙ there in
            absurd (cc)
        back (suc i, found, is, reads_it, on) = (i, found, is, subst (λ (k : ℕ). reads p.cell output k ≡ true) (omega arith) reads_it, on)

-- ---- the graph of a netlist

pub part_is : (parts : List PartUse) (o : Output) (p : PartUse) → slice_get parts o.0 ≡ Some p → part_of parts o ≡ p
part_is parts o p e = get_or_from_slice_get parts o.0 p _ e

pub drives_bits : (n : Netlist) (o : Output) (net : ℕ) → IsOutput n o → Drives n o net ↔ Contains (bits_of n.parts o) net
drives_bits n o net (p, is_part, less) =
    let same = part_is n.parts o p is_part in (
      λ d.
          let equal = same_Some d.part p (sym d.is_part ∙ is_part) in
          let bits : get_or (p.outputs) o.1 [] ≡ d.bits = ap (λ (q : PartUse). get_or q.outputs o.1 []) (sym equal) ∙ get_or_from_slice_get d.part.outputs o.1 d.bits [] d.is_output in
          subst (λ (xs : List ℕ). Contains xs net) (sym (ap (λ (q : PartUse). get_or q.outputs o.1 []) same ∙ bits)) d.on,
      λ h. record {
        part = p;
        bits = get_or p.outputs o.1 [];
        is_part = is_part;
        is_output = slice_get-get_or p.outputs o.1 [] less;
        on = subst (λ (q : PartUse). Contains (get_or q.outputs o.1 []) net) same h;
      },
    )

pub reads_nets : (n : Netlist) (o : Output) (net : ℕ) → IsOutput n o → Contains (read_nets (part_of n.parts o) o.1) net ↔ Reads n o net
reads_nets n o net (p, is_part, less) =
    let same = part_is n.parts o p is_part in
    let from = reads_from p o.1 0 p.inputs net in (
      λ h.
          let r = from.0 (subst (λ (q : PartUse). Contains (read_nets q o.1) net) same h) in
          record { part = p; input = r.0; bits = r.1; is_part = is_part; is_input = r.2; reads = subst (λ (k : ℕ). reads p.cell o.1 k ≡ true) (omega arith) r.3; on = r.4 },
      λ r.
          let equal = same_Some r.part p (sym r.is_part ∙ is_part) in
          subst (λ (q : PartUse). Contains (read_nets q o.1) net) (sym same)
          (from.1 (
            r.input,
            r.bits,
            subst (λ (q : PartUse). slice_get q.inputs r.input ≡ Some r.bits) equal r.is_input,
            subst (λ (k : ℕ). reads p.cell o.1 k ≡ true) (omega arith) (subst (λ (q : PartUse). reads q.cell o.1 r.input ≡ true) equal r.reads),
            r.on,
          )),
    )

-- the part of an output fits
pub part_fits : (n : Netlist) (o : Output) → IsOutput n o → IsFittingPart n.nets (part_of n.parts o)
part_fits n o (p, is_part, less) =
    let inside = slice_get_within n.parts o.0 p is_part in
    let fits = n.valid.parts_fit o.0 p inside in
    subst (IsFittingPart n.nets) (sym (part_is n.parts o p is_part)) (subst (IsFittingPart n.nets) (get_or_from_slice_get n.parts o.0 p p is_part) fits)

pub bits_are_nets : (n : Netlist) (o : Output) → IsOutput n o → AreNets n.nets (bits_of n.parts o)
bits_are_nets n o (p, is_part, less) =
    let fits = part_fits n o (p, is_part, less) in
    let same = part_is n.parts o p is_part in
    let inside : o.1 < length ((part_of n.parts o).outputs) = subst (λ (q : PartUse). o.1 < length q.outputs) (sym same) less in
    (fits.outputs o.1 [] inside).on_nets

all_bits_are_nets : (n : Netlist) (size : ℕ) → size ≡ n.nets → All (λ o. AreNets size (bits_of n.parts o)) (all_outputs n)
all_bits_are_nets n size e k d less =
    subst (λ (s : ℕ). AreNets s (bits_of n.parts (get_or (all_outputs n) k d))) (sym e)
    (bits_are_nets n (get_or (all_outputs n) k d) (output_at n k (get_or (all_outputs n) k d) (slice_get-get_or (all_outputs n) k d less)))

pub IsNetGraph-made : (n : Netlist) → IsNetGraph n (net_graph n)
IsNetGraph-made n =
    let start : List (List ℕ) = replicate n.nets [] in
    let driven = with_outputs n.parts n.nets (all_outputs n) (replicate n.nets []) in
    let read = map (λ (o : Output). read_nets (part_of n.parts o) o.1) (all_outputs n) in
    let start_length : length (replicate {A = List ℕ} n.nets []) ≡ n.nets = length-replicate n.nets [] in
    let size : length driven ≡ n.nets = length-with_outputs n.parts n.nets (all_outputs n) (replicate n.nets []) ∙ start_length in
    record {
      size = length-append driven read ∙ (omega (arith, length-map (all_outputs n) (λ (o : Output). read_nets (part_of n.parts o) o.1)));
      from_net = λ net to less.
          let put = outputs_put n.parts n.nets (all_outputs n) (replicate n.nets []) net to (all_bits_are_nets n (length (replicate {A = List ℕ} n.nets [])) start_length) in
          let here : get_or (driven ++ read) net [] ≡ get_or driven net [] = get_or_append_left driven read [] net (omega arith) in (
            λ h. forth net to less (put.0 (subst (λ (xs : List ℕ). Contains xs to) here h)),
            λ h. subst (λ (xs : List ℕ). Contains xs to) (sym here) (put.1 (inr (h.0, h.1, h.2, h.3, (drives_bits n h.1 net (output_at n h.0 h.1 h.2)).0 h.4))),
          );
      from_output = λ k o net e.
          let inside = slice_get_within (all_outputs n) k o e in
          let here : get_or (driven ++ read) (n.nets + k) [] ≡ read_nets (part_of n.parts o) o.1 =
          get_or-append_right driven read n.nets (n.nets + k) [] size (omega arith)
          ∙ (ap (λ (i : ℕ). get_or read i []) (omega arith)
          ∙ (get_or-map (λ (o : Output). read_nets (part_of n.parts o) o.1) (all_outputs n) k o [] inside
          ∙ ap (λ (q : Output). read_nets (part_of n.parts q) q.1) (get_or_from_slice_get (all_outputs n) k o o e))) in
          let reads = reads_nets n o net (output_at n k o e) in
          (λ h. reads.0 (subst (λ (xs : List ℕ). Contains xs net) here h), λ h. subst (λ (xs : List ℕ). Contains xs net) (sym here) (reads.1 h));
    }
  where
    forth : (net to : ℕ) → net < n.nets → Contains (get_or (replicate {A = List ℕ} n.nets []) net []) to ⊎ HasDriver n.parts n.nets (all_outputs n) net to
        → (k : ℕ) × (o : Output) × (slice_get (all_outputs n) k ≡ Some o) × (to ≡ n.nets + k) × Drives n o net
    forth net to less (inl h) = absurd (nothing (subst (λ (xs : List ℕ). Contains xs to) (get_or-replicate n.nets net [] [] less) h))
    forth net to less (inr h) = (h.0, h.1, h.2, h.3, (drives_bits n h.1 net (output_at n h.0 h.1 h.2)).1 h.4)

-- a part has few inputs
pub few_inputs : (nets : ℕ) (p : PartUse) → IsFittingPart nets p → length p.inputs < 2 ^ 32
few_inputs nets p fits = by_cell p.cell (length p.inputs) fits.takes
  where
    by_cell : (cell : Cell) (count : ℕ) → TakesInputs cell count → count < 2 ^ 32
    by_cell Not count takes = let most = takes.1 in omega arith
    by_cell And count takes = let most = takes.1 in omega arith
    by_cell Or count takes = let most = takes.1 in omega arith
