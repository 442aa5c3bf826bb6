-- An accepted netlist has exactly one longest delay.
use Rattle.std.proofs.Common.{◌≡◌, ℕ, zero, suc, ◌+◌, ◌<◌, ◌≤◌, List, [], ◌∷◌, length, Option, None, Some, refl, sym, subst, ap, ◌∙◌, arith, ◌⊎◌, inl, inr}
use Rattle.std.specs.Prelude.{Contains, slice_get}
use Rattle.std.proofs.lemmas.Bool.{cases_eq, cases_lt}
use Rattle.std.proofs.lemmas.Option.{same_Some, slice_get_within}
use Rattle.lg_netlist.specs.declared.netlist.Netlist.{Netlist}
use Rattle.lg_netlist.specs.Acceptance.{IsAccepted}
use Rattle.lg_netlist.specs.Chain.{Output, IsOutput, Drives, Reads, Follows, IsChain, output_delay, chain_delay, IsLongest}
use Rattle.lg_netlist.specs.Graph.{all_outputs, bits_of, part_of as part_at, read_nets}
use Rattle.lg_graph.proofs.Ways.{nothing, Contains-cons_cases}
use Rattle.lg_netlist.proofs.NetGraphLemmas.{drives_bits, reads_nets}
use Rattle.lg_netlist.proofs.OutputLemmas.{output_at, output_listed}
use Rattle.lg_netlist.proofs.Ranks.{HasRanks, ranks, none_on_cycle}

-- ---- an output reads what another drives, or nothing of it

contains_or_not : (xs : List ℕ) (x : ℕ) → Contains xs x ⊎ (Contains xs x → ⊥)
contains_or_not [] x = inr nothing
contains_or_not (y ∷ xs) x = by_case (cases_eq y x) (contains_or_not xs x)
  where
    by_case : (y ≡ x) ⊎ (y ≡ x → ⊥) → Contains xs x ⊎ (Contains xs x → ⊥) → Contains (y ∷ xs) x ⊎ (Contains (y ∷ xs) x → ⊥)
    by_case (inl e) more = inl (0, omega arith, e)
    by_case (inr ne) (inl (k, inside, e)) = inl (suc k, omega arith, e)
    by_case (inr ne) (inr none) = inr (λ h. apart (Contains-cons_cases y xs x h))
      where
        apart : (y ≡ x) ⊎ Contains xs x → ⊥
        apart (inl e) = ne e
        apart (inr h) = none h

-- some net is among both
shared_or_not : (xs ys : List ℕ) → ((net : ℕ) × Contains xs net × Contains ys net) ⊎ ((net : ℕ) → Contains xs net → Contains ys net → ⊥)
shared_or_not [] ys = inr (λ net h k. nothing h)
shared_or_not (x ∷ xs) ys = by_case (contains_or_not ys x) (shared_or_not xs ys)
  where
    by_case : Contains ys x ⊎ (Contains ys x → ⊥) → ((net : ℕ) × Contains xs net × Contains ys net) ⊎ ((net : ℕ) → Contains xs net → Contains ys net → ⊥)
        → ((net : ℕ) × Contains (x ∷ xs) net × Contains ys net) ⊎ ((net : ℕ) → Contains (x ∷ xs) net → Contains ys net → ⊥)
    by_case (inl on) more = inl (x, (0, omega arith, refl), on)
    by_case (inr off) (inl (net, (k, inside, e), on)) = inl (net, (suc k, omega arith, e), on)
    by_case (inr off) (inr none) = inr (λ net h on. apart net on (Contains-cons_cases x xs net h))
      where
        apart : (net : ℕ) → Contains ys net → (x ≡ net) ⊎ Contains xs net → ⊥
        apart net on (inl e) = off (subst (Contains ys) (sym e) on)
        apart net on (inr h) = none net h on

follows_or_not : (n : Netlist) (earlier later : Output) → IsOutput n earlier → IsOutput n later → Follows n earlier later ⊎ (Follows n earlier later → ⊥)
follows_or_not n earlier later is_earlier is_later = by_case (shared_or_not (bits_of n.parts earlier) (read_nets (part_at n.parts later) later.1))
  where
    by_case : ((net : ℕ) × Contains (bits_of n.parts earlier) net × Contains (read_nets (part_at n.parts later) later.1) net)
        ⊎ ((net : ℕ) → Contains (bits_of n.parts earlier) net → Contains (read_nets (part_at n.parts later) later.1) net → ⊥)
        → Follows n earlier later ⊎ (Follows n earlier later → ⊥)
    by_case (inl (net, driven, read)) = inl (record {
      is_earlier = is_earlier;
      is_later = is_later;
      net = net;
      driven = (drives_bits n earlier net is_earlier).1 driven;
      read = (reads_nets n later net is_later).0 read;
    })
    by_case (inr none) = inr (λ f. none f.net ((drives_bits n earlier f.net is_earlier).0 f.driven) ((reads_nets n later f.net is_later).1 f.read))

-- ---- the slowest chain that ends in an output

record Slowest (n : Netlist) (o : Output) : Type 0 where
  delay : ℕ
  rest : List Output
  is_chain : IsChain n (o ∷ rest)
  reached : chain_delay n (o ∷ rest) ≡ delay
  most : (more : List Output) → IsChain n (o ∷ more) → chain_delay n (o ∷ more) ≤ delay

-- the slowest of the chains that end in some of the first outputs; 0 where there are none
record SlowestOf (n : Netlist) (P : Output → Type 0) (count : ℕ) : Type 0 where
  delay : ℕ
  reached : (delay ≡ 0) ⊎ ((e : Output) × (more : List Output) × P e × IsChain n (e ∷ more) × (chain_delay n (e ∷ more) ≡ delay))
  most : (j : ℕ) (e : Output) (more : List Output) → j < count → slice_get (all_outputs n) j ≡ Some e → P e → IsChain n (e ∷ more) → chain_delay n (e ∷ more) ≤ delay

module _ (n : Netlist) where
  module _ (P : Output → Type 0) (decide : (e : Output) → IsOutput n e → P e ⊎ (P e → ⊥)) (slowest : (e : Output) → P e → Slowest n e) where
    -- a delay that is that of the outputs so far or of the next one, and at least both
    one_more : (k : ℕ) (b : SlowestOf n P k) (delay : ℕ) → b.delay ≤ delay
        → ((delay ≡ 0) ⊎ ((e : Output) × (more : List Output) × P e × IsChain n (e ∷ more) × (chain_delay n (e ∷ more) ≡ delay)))
        → ((e : Output) (more : List Output) → slice_get (all_outputs n) k ≡ Some e → P e → IsChain n (e ∷ more) → chain_delay n (e ∷ more) ≤ delay) → SlowestOf n P (suc k)
    one_more k b delay low reached here = record { delay = delay; reached = reached; most = λ j e more within at f chain. by_case j e more at f chain (cases_lt j k) within }
      where
        by_case : (j : ℕ) (e : Output) (more : List Output) → slice_get (all_outputs n) j ≡ Some e → P e → IsChain n (e ∷ more) → (j < k) ⊎ (k ≤ j) → j < suc k → chain_delay n (e ∷ more) ≤ delay
        by_case j e more at f chain (inl less) within = let h = b.most j e more less at f chain in omega (arith, h, low)
        by_case j e more at f chain (inr from) within =
            let same : j ≡ k = omega (arith, from, within) in
            here e more (ap (slice_get (all_outputs n)) (sym same) ∙ at) f chain

    -- the next output is one of them
    by_slowest : (k : ℕ) (b : SlowestOf n P k) (e : Output) → slice_get (all_outputs n) k ≡ Some e → P e → (s : Slowest n e) → (b.delay < s.delay) ⊎ (s.delay ≤ b.delay) → SlowestOf n P (suc k)
    by_slowest k b e at f s order = by_order order
      where
        here : (most : ℕ) → s.delay ≤ most → (other : Output) (more : List Output) → slice_get (all_outputs n) k ≡ Some other → P other → IsChain n (other ∷ more) → chain_delay n (other ∷ more) ≤ most
        here most enough other more there g chain =
            let same : other ≡ e = same_Some other e (sym there ∙ at) in
            let h = s.most more (subst (λ (q : Output). IsChain n (q ∷ more)) same chain) in
            let back : chain_delay n (other ∷ more) ≤ s.delay = subst (λ (q : Output). chain_delay n (q ∷ more) ≤ s.delay) (sym same) h in
            omega (arith, back, enough)

        by_order : (b.delay < s.delay) ⊎ (s.delay ≤ b.delay) → SlowestOf n P (suc k)
        by_order (inl less) = one_more k b s.delay (omega (arith, less)) (inr (e, s.rest, f, s.is_chain, s.reached)) (here s.delay (omega arith))
        by_order (inr low) = one_more k b b.delay (omega arith) b.reached (here b.delay low)

    by_next : (k : ℕ) (b : SlowestOf n P k) (found : Option Output) → slice_get (all_outputs n) k ≡ found → SlowestOf n P (suc k)
    by_next k b None none = one_more k b b.delay (omega arith) b.reached (λ e more at f chain. let both : None ≡ Some e = sym none ∙ at in absurd (cc))
    by_next k b (Some e) at = judged (decide e (output_at n k e at))
      where
        judged : P e ⊎ (P e → ⊥) → SlowestOf n P (suc k)
        judged (inl f) = let s = slowest e f in by_slowest k b e at f s (cases_lt b.delay s.delay)
        judged (inr none) = one_more k b b.delay (omega arith) b.reached (λ other more there f chain. absurd (none (subst P (same_Some other e (sym there ∙ at)) f)))

    slowest_of : (count : ℕ) → SlowestOf n P count
    slowest_of zero = record { delay = 0; reached = inl refl; most = λ j e more less. absurd (omega (arith, less)) }
    slowest_of (suc k) = by_next k (slowest_of k) (slice_get (all_outputs n) k) refl

  -- an output has a slowest chain where those that it follows have
  one_slowest : (o : Output) → IsOutput n o → ((e : Output) → Follows n e o → Slowest n e) → Slowest n o
  one_slowest o is slowest = by_case b.reached
    where
      b : SlowestOf n (λ e. Follows n e o) (length (all_outputs n))
      b = slowest_of (λ e. Follows n e o) (λ e is_earlier. follows_or_not n e o is_earlier is) slowest (length (all_outputs n))

      most : (more : List Output) → IsChain n (o ∷ more) → chain_delay n (o ∷ more) ≤ output_delay n o + b.delay
      most [] chain = omega arith
      most (e ∷ more) chain =
          let listed = output_listed n e chain.0.is_earlier in
          let h = b.most listed.0 e more (slice_get_within (all_outputs n) listed.0 e listed.1) listed.1 chain.0 chain.1 in
          omega (arith, h)

      by_case : (b.delay ≡ 0) ⊎ ((e : Output) × (more : List Output) × Follows n e o × IsChain n (e ∷ more) × (chain_delay n (e ∷ more) ≡ b.delay)) → Slowest n o
      by_case (inl none) = record { delay = output_delay n o + b.delay; rest = []; is_chain = is; reached = ap (λ (d : ℕ). output_delay n o + d) (sym none); most = most }
      by_case (inr (e, more, f, chain, long)) = record { delay = output_delay n o + b.delay; rest = e ∷ more; is_chain = (f, chain); reached = ap (λ (d : ℕ). output_delay n o + d) long; most = most }

  -- so each has, from low ranks to high
  ranked : (h : HasRanks n) (r i : ℕ) (o : Output) → slice_get (all_outputs n) i ≡ Some o → h.rank i < r → Slowest n o
  ranked h zero i o at low = absurd (omega (arith, low))
  ranked h (suc r) i o at low =
      one_slowest o (output_at n i o at) (λ e f.
      let listed = output_listed n e f.is_earlier in
      let rises = h.rises i listed.0 o e at listed.1 f in
      ranked h r listed.0 e listed.1 (omega (arith, low, rises)))

  head_output : (o : Output) (more : List Output) → IsChain n (o ∷ more) → IsOutput n o
  head_output o [] chain = chain
  head_output o (e ∷ more) chain = chain.0.is_later

  none_within : (outputs : List Output) → slice_get outputs 0 ≡ None → (k : ℕ) → k < length outputs → ⊥
  none_within [] none k within = absurd (omega (arith, within))
  none_within (o ∷ outputs) none k within = absurd (cc)

  -- the slowest of all is the longest
  longest : HasRanks n → (delay : ℕ) × IsLongest n delay
  longest h = (b.delay, record { most = most; reached = by_case b.reached (slice_get (all_outputs n) 0) refl })
    where
      b : SlowestOf n (IsOutput n) (length (all_outputs n))
      b = slowest_of (IsOutput n) (λ e is. inl is) (λ e is. let listed = output_listed n e is in ranked h (suc (h.rank listed.0)) listed.0 e listed.1 (omega arith)) (length (all_outputs n))

      most : (chain : List Output) → IsChain n chain → chain_delay n chain ≤ b.delay
      most [] none = absurd none
      most (o ∷ more) chain =
          let is = head_output o more chain in
          let listed = output_listed n o is in
          b.most listed.0 o more (slice_get_within (all_outputs n) listed.0 o listed.1) listed.1 is chain

      no_output : slice_get (all_outputs n) 0 ≡ None → (o : Output) → IsOutput n o → ⊥
      no_output none o is =
          let listed = output_listed n o is in
          none_within (all_outputs n) none listed.0 (slice_get_within (all_outputs n) listed.0 o listed.1)

      by_case : (b.delay ≡ 0) ⊎ ((e : Output) × (more : List Output) × IsOutput n e × IsChain n (e ∷ more) × (chain_delay n (e ∷ more) ≡ b.delay)) → (first : Option Output) → slice_get (all_outputs n) 0 ≡ first
          → ((chain : List Output) × IsChain n chain × (chain_delay n chain ≡ b.delay)) ⊎ ((b.delay ≡ 0) × ((o : Output) → IsOutput n o → ⊥))
      by_case (inr (e, more, is, chain, long)) first at = inl (e ∷ more, chain, long)
      by_case (inl none) None at = inr (none, no_output at)
      by_case (inl none) (Some o) at =
          let is = output_at n 0 o at in
          let h = most (o ∷ []) is in
          inl (o ∷ [], is, omega (arith, h, none))

-- an accepted netlist has a longest delay
pub has_longest : (n : Netlist) → IsAccepted n → (delay : ℕ) × IsLongest n delay
has_longest n accepted = longest n (ranks n (none_on_cycle n accepted))

-- and no other
pub one_longest : (n : Netlist) (delay other : ℕ) → IsLongest n delay → IsLongest n other → other ≡ delay
one_longest n delay other is also =
    let low = at_most delay other is also.reached in
    let high = at_most other delay also is.reached in
    omega (arith, low, high)
  where
    at_most : (most of_one : ℕ) → IsLongest n most → ((chain : List Output) × IsChain n chain × (chain_delay n chain ≡ of_one)) ⊎ ((of_one ≡ 0) × ((o : Output) → IsOutput n o → ⊥)) → of_one ≤ most
    at_most most of_one l (inl (chain, is_chain, long)) = let h = l.most chain is_chain in omega (arith, h, long)
    at_most most of_one l (inr (zero_long, no_outputs)) = omega (arith, zero_long)
