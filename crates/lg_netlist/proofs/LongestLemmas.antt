-- Arrivals on nets are the longest chains that end on them, and stay so when an output is met after those that it follows.
use Rattle.std.proofs.Common.{◌≡◌, ℕ, zero, suc, ◌+◌, ◌*◌, ◌<◌, ◌≤◌, max, Bool, true, false, List, [], ◌∷◌, ◌++◌, length, get_or, set, eqb, refl, sym, subst, ap, ◌∙◌, arith, ◌⊎◌, inl, inr, Some, if◌then◌else◌, take, drop, drop-cons, get_or-set_same, get_or-set_other}
use Rattle.std.specs.Prelude.{All, Contains, map, slice_get}
use Rattle.std.specs.List.{flat_map, enumerate_from, list_any}
use Rattle.std.proofs.lemmas.Bool.{cases_eq, cases_lt, ne_eqb}
use Rattle.std.proofs.lemmas.Grind.{common_steps}
use Rattle.std.proofs.lemmas.List.{length-set, length-map, get_or-map}
use Rattle.std.proofs.lemmas.List.Elements.{All-head, All-tail}
use Rattle.std.proofs.lemmas.Map.Keys.{IsDistinct-from_apart}
use Rattle.std.proofs.lemmas.Map.Steps.{length-le_from_distinct_below}
use Rattle.std.proofs.lemmas.Option.{same_Some, slice_get-get_or, slice_get_within}
use Rattle.lg_netlist.specs.declared.netlist.PartUse.{PartUse}
use Rattle.lg_netlist.specs.declared.netlist.Netlist.{Netlist}
use Rattle.lg_netlist.specs.Cell.{delay_of, reads}
use Rattle.lg_netlist.specs.Chain.{Output, IsOutput, Drives, Follows, IsChain, output_delay, chain_delay, IsLongest, IsOrder, StandsBefore}
use Rattle.lg_netlist.specs.Graph.{read_nets, part_of, bits_of}
use Rattle.lg_netlist.specs.Longest.{latest, raised}
use Rattle.lg_netlist.specs.Valid.{AreNets}
use Rattle.lg_netlist.proofs.NetGraphLemmas.{drives_bits, reads_nets, part_is, part_fits}

-- ---- the latest of some arrivals

pub latest-append : (arrivals xs ys : List ℕ) → latest arrivals (xs ++ ys) ≡ max (latest arrivals xs) (latest arrivals ys)
latest-append arrivals [] ys = omega arith
latest-append arrivals (x ∷ xs) ys = let more = latest-append arrivals xs ys in omega arith

latest_most : (arrivals nets : List ℕ) (net : ℕ) → Contains nets net → get_or arrivals net 0 ≤ latest arrivals nets
latest_most arrivals [] net h = let inside = h.1 in absurd (omega arith)
latest_most arrivals (x ∷ nets) net (zero, inside, e) = let same = ap (λ (k : ℕ). get_or arrivals k 0) e in omega arith
latest_most arrivals (x ∷ nets) net (suc k, inside, e) = let more = latest_most arrivals nets net (k, omega arith, e) in omega arith

-- one of the nets has the latest
abbrev HasLatest : List ℕ → List ℕ → Type 0
HasLatest arrivals nets = (latest arrivals nets ≡ 0) ⊎ ((net : ℕ) × Contains nets net × (get_or arrivals net 0 ≡ latest arrivals nets))

latest_reached : (arrivals nets : List ℕ) → HasLatest arrivals nets
latest_reached arrivals [] = inl refl
latest_reached arrivals (x ∷ nets) = by_case (cases_lt (get_or arrivals x 0) (latest arrivals nets)) (latest_reached arrivals nets)
  where
    by_case : (get_or arrivals x 0 < latest arrivals nets) ⊎ (latest arrivals nets ≤ get_or arrivals x 0) → HasLatest arrivals nets → HasLatest arrivals (x ∷ nets)
    by_case (inr here) more = inr (x, (0, omega arith, refl), omega arith)
    by_case (inl later) (inl none) = absurd (omega arith)
    by_case (inl later) (inr (net, on, e)) = let inside = on.1 in inr (net, (suc on.0, omega arith, on.2), omega arith)

pub latest_low : (arrivals nets : List ℕ) (most : ℕ) → ((net : ℕ) → get_or arrivals net 0 ≤ most) → latest arrivals nets ≤ most
latest_low arrivals [] most low = omega arith
latest_low arrivals (x ∷ nets) most low = let more = latest_low arrivals nets most low in let here = low x in omega arith

-- the nets that an output reads by the inputs from some place on
abbrev pub nets_from : PartUse → ℕ → ℕ → List ℕ
nets_from p output k = flat_map (λ (i : ℕ × List ℕ). if reads p.cell output i.0 then i.1 else []) (enumerate_from k (drop k p.inputs))

read_by : (p : PartUse) (output k : ℕ) (bits : List ℕ) (b : Bool) → k < length p.inputs → bits ≡ get_or p.inputs k bits → reads p.cell output k ≡ b
    → nets_from p output k ≡ (if b then bits else []) ++ nets_from p output (k + 1)
read_by p output k bits b less is e =
    let one : suc k ≡ k + 1 = omega arith in
    let split : drop k p.inputs ≡ bits ∷ drop (k + 1) p.inputs =
    drop-cons p.inputs k bits less
    ∙ (ap (λ (j : ℕ). get_or p.inputs k bits ∷ drop j p.inputs) one ∙ ap (λ (xs : List ℕ). xs ∷ drop (k + 1) p.inputs) (sym is)) in
    ap (λ (xs : List (List ℕ)). flat_map (λ (i : ℕ × List ℕ). if reads p.cell output i.0 then i.1 else []) (enumerate_from k xs)) split
    ∙ ap (λ (c : Bool). (if c then bits else []) ++ nets_from p output (k + 1)) e

pub latest_read : (arrivals : List ℕ) (p : PartUse) (output k : ℕ) (bits : List ℕ) → k < length p.inputs → bits ≡ get_or p.inputs k bits → reads p.cell output k ≡ true
    → latest arrivals (nets_from p output k) ≡ max (latest arrivals bits) (latest arrivals (nets_from p output (k + 1)))
latest_read arrivals p output k bits less is e =
    ap (latest arrivals) (read_by p output k bits true less is e) ∙ latest-append arrivals bits (nets_from p output (k + 1))

pub latest_unread : (arrivals : List ℕ) (p : PartUse) (output k : ℕ) (bits : List ℕ) → k < length p.inputs → bits ≡ get_or p.inputs k bits → reads p.cell output k ≡ false
    → latest arrivals (nets_from p output k) ≡ latest arrivals (nets_from p output (k + 1))
latest_unread arrivals p output k bits less is e = ap (latest arrivals) (read_by p output k bits false less is e)

-- ---- raised arrivals

pub length-raised : (delay : ℕ) (nets arrivals : List ℕ) → length (raised delay nets arrivals) ≡ length arrivals
length-raised delay [] arrivals = refl
length-raised delay (x ∷ nets) arrivals =
    length-raised delay nets (set arrivals x (max (get_or arrivals x 0) delay)) ∙ length-set arrivals x (max (get_or arrivals x 0) delay)

-- what is raised is so at the nets, and only there
pub record IsRaised (delay : ℕ) (nets arrivals after : List ℕ) : Type 0 where
  pub keeps : (net : ℕ) → get_or arrivals net 0 ≤ get_or after net 0
  pub at : (net : ℕ) → Contains nets net → delay ≤ get_or after net 0
  pub from : (net : ℕ) → (get_or after net 0 ≡ get_or arrivals net 0) ⊎ (Contains nets net × (get_or after net 0 ≡ delay))

-- a net's arrival after one is raised
abbrev One : List ℕ → ℕ → ℕ → ℕ → Type 0
One arrivals x delay net =
    ((net ≡ x) × (get_or (set arrivals x (max (get_or arrivals x 0) delay)) net 0 ≡ max (get_or arrivals net 0) delay))
    ⊎ ((net ≡ x → ⊥) × (get_or (set arrivals x (max (get_or arrivals x 0) delay)) net 0 ≡ get_or arrivals net 0))

set_one : (arrivals : List ℕ) (x delay net : ℕ) → x < length arrivals → One arrivals x delay net
set_one arrivals x delay net less = by_case (cases_eq net x)
  where
    by_case : (net ≡ x) ⊎ (net ≡ x → ⊥) → One arrivals x delay net
    by_case (inl e) =
        inl (
          e,
          subst (λ (k : ℕ). get_or (set arrivals x (max (get_or arrivals x 0) delay)) k 0 ≡ max (get_or arrivals k 0) delay) (sym e)
              (get_or-set_same arrivals x (max (get_or arrivals x 0) delay) 0 less),
        )
    by_case (inr ne) = inr (ne, get_or-set_other arrivals x net (max (get_or arrivals x 0) delay) 0 ne)

one_more : (delay : ℕ) (nets arrivals after : List ℕ) (x : ℕ) → ((net : ℕ) → One arrivals x delay net)
    → IsRaised delay nets (set arrivals x (max (get_or arrivals x 0) delay)) after → IsRaised delay (x ∷ nets) arrivals after
one_more delay nets arrivals after x one more = record {
  keeps = λ net. keeps net (more.keeps net) (one net);
  at = λ net h. at net h;
  from = λ net. from net (more.from net) (one net);
}
  where
    keeps : (net : ℕ) → get_or (set arrivals x (max (get_or arrivals x 0) delay)) net 0 ≤ get_or after net 0 → One arrivals x delay net → get_or arrivals net 0 ≤ get_or after net 0
    keeps net later (inl (e, here)) = omega arith
    keeps net later (inr (ne, here)) = omega arith

    at_first : (net : ℕ) → x ≡ net → get_or (set arrivals x (max (get_or arrivals x 0) delay)) net 0 ≤ get_or after net 0 → One arrivals x delay net → delay ≤ get_or after net 0
    at_first net e later (inl (same, here)) = omega arith
    at_first net e later (inr (ne, here)) = absurd (ne (sym e))

    at : (net : ℕ) → Contains (x ∷ nets) net → delay ≤ get_or after net 0
    at net (zero, inside, e) = at_first net e (more.keeps net) (one net)
    at net (suc k, inside, e) = more.at net (k, omega arith, e)

    from_first : (net : ℕ) → net ≡ x → get_or after net 0 ≡ max (get_or arrivals net 0) delay → (get_or arrivals net 0 < delay) ⊎ (delay ≤ get_or arrivals net 0)
        → (get_or after net 0 ≡ get_or arrivals net 0) ⊎ (Contains (x ∷ nets) net × (get_or after net 0 ≡ delay))
    from_first net same here (inl high) = inr ((0, omega arith, sym same), omega arith)
    from_first net same here (inr low) = inl (omega arith)

    from : (net : ℕ) → (get_or after net 0 ≡ get_or (set arrivals x (max (get_or arrivals x 0) delay)) net 0) ⊎ (Contains nets net × (get_or after net 0 ≡ delay)) → One arrivals x delay net
        → (get_or after net 0 ≡ get_or arrivals net 0) ⊎ (Contains (x ∷ nets) net × (get_or after net 0 ≡ delay))
    from net (inr (on, e)) one = let inside = on.1 in inr ((suc on.0, omega arith, on.2), e)
    from net (inl later) (inr (ne, here)) = inl (later ∙ here)
    from net (inl later) (inl (same, here)) = from_first net same (later ∙ here) (cases_lt (get_or arrivals net 0) delay)

pub IsRaised-made : (delay : ℕ) (nets arrivals : List ℕ) → AreNets (length arrivals) nets → IsRaised delay nets arrivals (raised delay nets arrivals)
IsRaised-made delay [] arrivals within = record {
  keeps = λ net. omega arith;
  at = λ net h. let inside = h.1 in absurd (omega arith);
  from = λ net. inl refl;
}
IsRaised-made delay (x ∷ nets) arrivals within =
    let less : x < length arrivals = All-head (λ (m : ℕ). m < length arrivals) x nets within in
    let rest : AreNets (length arrivals) nets = All-tail (λ (m : ℕ). m < length arrivals) x nets within in
    let next = set arrivals x (max (get_or arrivals x 0) delay) in
    let kept : AreNets (length next) nets = subst (λ (k : ℕ). AreNets k nets) (sym (length-set arrivals x (max (get_or arrivals x 0) delay))) rest in
    one_more delay nets arrivals (raised delay nets next) x (λ net. set_one arrivals x delay net less) (IsRaised-made delay nets next kept)

-- ---- chains

-- an output and the delay of its part
delay_is : (n : Netlist) (o : Output) → IsOutput n o → output_delay n o ≡ delay_of ((part_of n.parts o).cell)
delay_is n o (p, is_part, less) =
    let same = part_is n.parts o p is_part in
    let here : output_delay n o ≡ delay_of p.cell = rw is_part refl in
    here ∙ ap (λ (q : PartUse). delay_of q.cell) (sym same)

head_output : (n : Netlist) (o : Output) (more : List Output) → IsChain n (o ∷ more) → IsOutput n o
head_output n o [] h = h
head_output n o (e ∷ more) h = h.0.is_later

-- a chain of this delay that ends in an output
abbrev EndsIn : Netlist → Output → ℕ → Type 0
EndsIn n o delay = (more : List Output) × IsChain n (o ∷ more) × (chain_delay n (o ∷ more) ≡ delay)

-- an arrival on a net: that of a chain that ends in an output that drives it, or 0
abbrev IsArrival : Netlist → ℕ → ℕ → Type 0
IsArrival n net delay = (delay ≡ 0) ⊎ ((o : Output) × (more : List Output) × IsChain n (o ∷ more) × Drives n o net × (chain_delay n (o ∷ more) ≡ delay))

-- the delay of a chain, or 0 at the first place
abbrev IsLongestAt : Netlist → ℕ → ℕ → Type 0
IsLongestAt n place delay = ((place ≡ 0) × (delay ≡ 0)) ⊎ ((o : Output) × (more : List Output) × IsChain n (o ∷ more) × (chain_delay n (o ∷ more) ≡ delay))

-- the arrivals on nets and the longest chain, once the outputs before a place are met
pub record AreArrivals (n : Netlist) (outputs : List Output) (place : ℕ) (arrivals : List ℕ) (longest : ℕ) : Type 0 where
  pub net_most : (o : Output) (more : List Output) (net : ℕ) → IsChain n (o ∷ more) → StandsBefore outputs place o → Drives n o net → chain_delay n (o ∷ more) ≤ get_or arrivals net 0
  pub net_reached : (net : ℕ) → IsArrival n net (get_or arrivals net 0)
  pub net_low : (net : ℕ) → get_or arrivals net 0 ≤ 255 * place
  pub most : (o : Output) (more : List Output) → IsChain n (o ∷ more) → StandsBefore outputs place o → chain_delay n (o ∷ more) ≤ longest
  pub reached : IsLongestAt n place longest
  pub low : longest ≤ 255 * place

-- the chains that end in the next output are no longer than the arrival at it and its delay
ends_most : (n : Netlist) (outputs : List Output) (place : ℕ) (arrivals : List ℕ) (longest : ℕ) → IsOrder n outputs → AreArrivals n outputs place arrivals longest
    → (o : Output) → slice_get outputs place ≡ Some o → (more : List Output) → IsChain n (o ∷ more)
    → chain_delay n (o ∷ more) ≤ latest arrivals (read_nets (part_of n.parts o) o.1) + delay_of ((part_of n.parts o).cell)
ends_most n outputs place arrivals longest order are o is [] chain =
    let d = delay_is n o chain in omega arith
ends_most n outputs place arrivals longest order are o is (e ∷ more) chain =
    let follows = chain.0 in
    let d = delay_is n o follows.is_later in
    let before = order.after place o e is follows in
    let there = are.net_most e more follows.net chain.1 before follows.driven in
    let read = latest_most arrivals (read_nets (part_of n.parts o) o.1) follows.net ((reads_nets n o follows.net follows.is_later).1 follows.read) in
    omega arith

-- and some chain that ends in it is just so long
ends_reached : (n : Netlist) (outputs : List Output) (place : ℕ) (arrivals : List ℕ) (longest : ℕ) → AreArrivals n outputs place arrivals longest
    → (o : Output) → IsOutput n o
    → EndsIn n o (latest arrivals (read_nets (part_of n.parts o) o.1) + delay_of ((part_of n.parts o).cell))
ends_reached n outputs place arrivals longest are o is = by_case (latest_reached arrivals (read_nets (part_of n.parts o) o.1))
  where
    alone : latest arrivals (read_nets (part_of n.parts o) o.1) ≡ 0 → EndsIn n o (latest arrivals (read_nets (part_of n.parts o) o.1) + delay_of ((part_of n.parts o).cell))
    alone none = let d = delay_is n o is in ([], is, omega arith)

    at_net : (net : ℕ) → Contains (read_nets (part_of n.parts o) o.1) net → get_or arrivals net 0 ≡ latest arrivals (read_nets (part_of n.parts o) o.1)
        → IsArrival n net (get_or arrivals net 0) → EndsIn n o (latest arrivals (read_nets (part_of n.parts o) o.1) + delay_of ((part_of n.parts o).cell))
    at_net net on same (inl none) = alone (sym same ∙ none)
    at_net net on same (inr (e, more, chain, drives, long)) =
        let d = delay_is n o is in
        let follows : Follows n e o = record { is_earlier = head_output n e more chain; is_later = is; net = net; driven = drives; read = (reads_nets n o net is).0 on } in
        (e ∷ more, (follows, chain), omega arith)

    by_case : HasLatest arrivals (read_nets (part_of n.parts o) o.1) → EndsIn n o (latest arrivals (read_nets (part_of n.parts o) o.1) + delay_of ((part_of n.parts o).cell))
    by_case (inl none) = alone none
    by_case (inr (net, on, same)) = at_net net on same (are.net_reached net)

-- ---- one output more

pub start : (n : Netlist) (outputs : List Output) (arrivals : List ℕ) → ((net : ℕ) → get_or arrivals net 0 ≡ 0) → AreArrivals n outputs 0 arrivals 0
start n outputs arrivals zeros = record {
  net_most = λ o more net chain before drives. let none = before.1 in absurd (omega arith);
  net_reached = λ net. inl (zeros net);
  net_low = λ net. let z = zeros net in omega arith;
  most = λ o more chain before. let none = before.1 in absurd (omega arith);
  reached = inl (refl, refl);
  low = omega arith;
}

pub next : (n : Netlist) (outputs : List Output) (place : ℕ) (arrivals after : List ℕ) (longest delay : ℕ) (o : Output) → IsOrder n outputs
    → AreArrivals n outputs place arrivals longest → slice_get outputs place ≡ Some o
    → delay ≡ latest arrivals (read_nets (part_of n.parts o) o.1) + delay_of ((part_of n.parts o).cell) → delay_of ((part_of n.parts o).cell) ≤ 255
    → IsRaised delay (bits_of n.parts o) arrivals after → AreArrivals n outputs (place + 1) after (max longest delay)
next n outputs place arrivals after longest delay o order are is delay_is short up = record {
  net_most = λ q more net chain before drives. net_most q more net chain drives (split before);
  net_reached = λ net. net_reached net (up.from net) (are.net_reached net);
  net_low = λ net. net_low net (up.from net);
  most = λ q more chain before. most q more chain (split before);
  reached = reached (cases_lt longest delay) are.reached;
  low = let l = are.low in let d = delay_low in omega arith;
}
  where
    is_output : IsOutput n o
    is_output = order.only place o is

    here : (more : List Output) → IsChain n (o ∷ more) → chain_delay n (o ∷ more) ≤ delay
    here more chain = let h = ends_most n outputs place arrivals longest order are o is more chain in omega arith

    split : {q : Output} → StandsBefore outputs (place + 1) q → StandsBefore outputs place q ⊎ (q ≡ o)
    split {q} before = by_case (cases_lt before.0 place)
      where
        by_case : (before.0 < place) ⊎ (place ≤ before.0) → StandsBefore outputs place q ⊎ (q ≡ o)
        by_case (inl less) = inl (before.0, less, before.2)
        by_case (inr more) =
            let high = before.1 in
            let same : before.0 ≡ place = omega arith in
            inr (same_Some q o (sym before.2 ∙ (ap (λ (k : ℕ). slice_get outputs k) same ∙ is)))

    delay_low : delay ≤ 255 * (place + 1)
    delay_low = let l = latest_low arrivals (read_nets (part_of n.parts o) o.1) (255 * place) are.net_low in omega arith

    net_most : (q : Output) (more : List Output) (net : ℕ) → IsChain n (q ∷ more) → Drives n q net → StandsBefore outputs place q ⊎ (q ≡ o) → chain_delay n (q ∷ more) ≤ get_or after net 0
    net_most q more net chain drives (inl before) = let old = are.net_most q more net chain before drives in let k = up.keeps net in omega arith
    net_most q more net chain drives (inr e) =
        let long = here more (subst (λ (r : Output). IsChain n (r ∷ more)) e chain) in
        let same : chain_delay n (q ∷ more) ≡ chain_delay n (o ∷ more) = ap (λ (r : Output). chain_delay n (r ∷ more)) e in
        let high = up.at net ((drives_bits n o net is_output).0 (subst (λ (r : Output). Drives n r net) e drives)) in
        omega arith

    net_reached : (net : ℕ) → (get_or after net 0 ≡ get_or arrivals net 0) ⊎ (Contains (bits_of n.parts o) net × (get_or after net 0 ≡ delay))
        → IsArrival n net (get_or arrivals net 0) → IsArrival n net (get_or after net 0)
    net_reached net (inl same) (inl none) = inl (same ∙ none)
    net_reached net (inl same) (inr (q, more, chain, drives, long)) = inr (q, more, chain, drives, long ∙ sym same)
    net_reached net (inr (on, same)) old =
        let h = ends_reached n outputs place arrivals longest are o is_output in
        inr (o, h.0, h.1, (drives_bits n o net is_output).1 on, h.2 ∙ (sym delay_is ∙ sym same))

    net_low : (net : ℕ) → (get_or after net 0 ≡ get_or arrivals net 0) ⊎ (Contains (bits_of n.parts o) net × (get_or after net 0 ≡ delay)) → get_or after net 0 ≤ 255 * (place + 1)
    net_low net (inl same) = let l = are.net_low net in omega arith
    net_low net (inr (on, same)) = let l = delay_low in omega arith

    most : (q : Output) (more : List Output) → IsChain n (q ∷ more) → StandsBefore outputs place q ⊎ (q ≡ o) → chain_delay n (q ∷ more) ≤ max longest delay
    most q more chain (inl before) = let old = are.most q more chain before in omega arith
    most q more chain (inr e) =
        let long = here more (subst (λ (r : Output). IsChain n (r ∷ more)) e chain) in
        let same : chain_delay n (q ∷ more) ≡ chain_delay n (o ∷ more) = ap (λ (r : Output). chain_delay n (r ∷ more)) e in
        omega arith

    by_this : longest ≤ delay → IsLongestAt n (place + 1) (max longest delay)
    by_this less = let h = ends_reached n outputs place arrivals longest are o is_output in let long = h.2 in inr (o, h.0, h.1, omega arith)

    reached : (longest < delay) ⊎ (delay ≤ longest) → IsLongestAt n place longest → IsLongestAt n (place + 1) (max longest delay)
    reached (inl less) old = by_this (omega arith)
    reached (inr more) (inl (first, none)) = by_this (omega arith)
    reached (inr low) (inr (q, more, chain, long)) = inr (q, more, chain, omega arith)

-- ---- all outputs

pub finish : (n : Netlist) (outputs : List Output) (arrivals : List ℕ) (longest : ℕ) → IsOrder n outputs → AreArrivals n outputs (length outputs) arrivals longest → IsLongest n longest
finish n outputs arrivals longest order are = record { most = most; reached = reached are.reached }
  where
    most : (chain : List Output) → IsChain n chain → chain_delay n chain ≤ longest
    most [] none = absurd none
    most (o ∷ more) chain = are.most o more chain (order.each o (head_output n o more chain))

    reached : IsLongestAt n (length outputs) longest
        → ((chain : List Output) × IsChain n chain × (chain_delay n chain ≡ longest)) ⊎ ((longest ≡ 0) × ((o : Output) → IsOutput n o → ⊥))
    reached (inl (none, zero_long)) = inr (zero_long, λ o is. let before = order.each o is in let less = before.1 in absurd (omega arith))
    reached (inr (o, more, chain, long)) = inl (o ∷ more, chain, long)

-- ---- an order is no longer than there are parts, each of which has one output

below : (xs : List ℕ) (most q : ℕ) → All (λ k. k < most) xs → list_any (eqb q) xs ≡ true → q < most
below [] most q low h = absurd (cc)
below (x ∷ xs) most q low h = by_case (below xs most q (All-tail (λ k. k < most) x xs low)) (cases_eq q x)
  where
    by_case : (list_any (eqb q) xs ≡ true → q < most) → (q ≡ x) ⊎ (q ≡ x → ⊥) → q < most
    by_case more (inl e) = let first = All-head (λ k. k < most) x xs low in omega arith
    by_case more (inr ne) = more (rw (ne_eqb q x ne) at h)

-- the output at a place is the first of its part
at_place : (n : Netlist) (outputs : List Output) → IsOrder n outputs → (i : ℕ) → i < length outputs
    → (slice_get outputs i ≡ Some (get_or outputs i (0, 0))) × (((get_or outputs i (0, 0)).1 ≡ 0) × ((get_or outputs i (0, 0)).0 < length n.parts))
at_place n outputs order i less =
    let o = get_or outputs i (0, 0) in
    let at = slice_get-get_or outputs i (0, 0) less in
    let is = order.only i o at in
    let inside = slice_get_within n.parts o.0 is.0 is.1 in
    let fits = part_fits n o is in
    let one : length is.0.outputs ≡ 1 = subst (λ (q : PartUse). length q.outputs ≡ 1) (part_is n.parts o is.0 is.1) fits.gives in
    let few = is.2 in
    (at, (omega arith, inside))

pub order_short : (n : Netlist) (outputs : List Output) → IsOrder n outputs → length outputs ≤ length n.parts
order_short n outputs order =
    let long = length-map outputs (λ (o : Output). o.0) in
    let at : (i d : ℕ) → i < length outputs → get_or (map (λ (o : Output). o.0) outputs) i d ≡ (get_or outputs i (0, 0)).0 =
    λ i d less. get_or-map (λ (o : Output). o.0) outputs i (0, 0) d less in
    let short = length-le_from_distinct_below (map (λ (o : Output). o.0) outputs) (length n.parts)
    (IsDistinct-from_apart eqb (map (λ (o : Output). o.0) outputs) (λ i j d less inside.
    let far : j < length outputs = omega arith in
    let near : i < length outputs = omega arith in
    ne_eqb (get_or (map (λ (o : Output). o.0) outputs) i d) (get_or (map (λ (o : Output). o.0) outputs) j d)
    (λ e. apart i j less far (sym (at i d near) ∙ (e ∙ at j d far)))))
    (λ q h. below (map (λ (o : Output). o.0) outputs) (length n.parts) q
    (λ k d less. let near : k < length outputs = omega arith in subst (λ (m : ℕ). m < length n.parts) (sym (at k d near)) (at_place n outputs order k near).1.1) h) in
    omega arith
  where
    apart : (i j : ℕ) → i < j → j < length outputs → (get_or outputs i (0, 0)).0 ≡ (get_or outputs j (0, 0)).0 → ⊥
    apart i j less far e =
        let a = at_place n outputs order i (omega arith) in
        let b = at_place n outputs order j far in
        let same : get_or outputs i (0, 0) ≡ get_or outputs j (0, 0) =
        ap (λ (k : ℕ). (k, (get_or outputs i (0, 0)).1)) e ∙ ap (λ (k : ℕ). ((get_or outputs j (0, 0)).0, k)) (a.1.0 ∙ sym b.1.0) in
        let place = order.once i j (get_or outputs i (0, 0)) a.0 (b.0 ∙ ap Some (sym same)) in
        absurd (omega arith)

-- what is written back to a vector through a slice of it
pub written : (size : ℕ) (old new : List ℕ) → length new ≡ length old → length old ≡ size → take size (new ++ drop (length new) old) ≡ new
written size old new same full = grind (arith, common_steps)
