-- Where no output is on a cycle each output has a rank, above the ranks of those that it follows.
use Rattle.std.proofs.Common.{◌≡◌, ℕ, zero, suc, ◌+◌, ◌<◌, ◌≤◌, Bool, true, false, [], ◌∷◌, length, refl, subst, ap, arith, ◌⊎◌, inl, inr, Some}
use Rattle.std.specs.Prelude.{slice_get}
use Rattle.std.proofs.lemmas.Bool.{cases_lt}
use Rattle.std.proofs.lemmas.Option.{slice_get_within}
use Rattle.lg_graph.specs.Graph.{HasArrow, Leads}
use Rattle.lg_netlist.specs.declared.acceptance.NotAccepted.TheVariants as refusal
use Rattle.lg_netlist.specs.declared.netlist.Netlist.{Netlist}
use Rattle.lg_netlist.specs.Acceptance.{Cycle, IsAccepted}
use Rattle.lg_netlist.specs.Chain.{Output, Follows, IsOnCycle, IsFirstOnCycle}
use Rattle.lg_netlist.specs.Graph.{all_outputs, net_graph, IsNetGraph}
use Rattle.lg_netlist.proofs.NetGraphLemmas.{IsNetGraph-made}
use Rattle.lg_netlist.proofs.CycleLemmas.{two_arrows, leads_cycle}
use Rattle.lg_netlist.proofs.OrderLemmas.{cycle_output}
use Rattle.lg_netlist.proofs.Judged.{way_or_none, cycles_or_none}

-- no output of an accepted netlist is on a cycle
pub none_on_cycle : (n : Netlist) → IsAccepted n → (o : Output) → IsOnCycle n o → ⊥
none_on_cycle n accepted o cycle = go (cycles_or_none n)
  where
    go : ((part : ℕ) × IsFirstOnCycle n part) ⊎ ((o : Output) → IsOnCycle n o → ⊥) → ⊥
    go (inl (part, first)) =
        let is = cycle_output n (part, first.output) first.on_cycle in
        accepted Cycle (refusal.Cycle is.0.name) (part, is.0, first, is.1, refl)
    go (inr none) = none o cycle

-- ---- how many numbers pass a test

abbrev one_if : Bool → ℕ
one_if true = 1
one_if false = 0

abbrev count_below : (ℕ → Bool) → ℕ → ℕ
count_below test zero = 0
count_below test (suc k) = one_if (test k) + count_below test k

count_most : (test : ℕ → Bool) (k : ℕ) → count_below test k ≤ k
count_most test zero = omega arith
count_most test (suc k) = go (test k) (count_most test k)
  where
    go : (b : Bool) → count_below test k ≤ k → one_if b + count_below test k ≤ suc k
    go true h = omega arith
    go false h = omega arith

ones_rise : (a b : Bool) → (a ≡ true → b ≡ true) → one_if a ≤ one_if b
ones_rise true true h = omega arith
ones_rise true false h = absurd (cc (h refl))
ones_rise false true h = omega arith
ones_rise false false h = omega arith

count_rises : (less more : ℕ → Bool) → ((j : ℕ) → less j ≡ true → more j ≡ true) → (k : ℕ) → count_below less k ≤ count_below more k
count_rises less more h zero = omega arith
count_rises less more h (suc k) =
    let rest = count_rises less more h k in
    let first = ones_rise (less k) (more k) (h k) in
    omega arith

count_above : (less more : ℕ → Bool) → ((j : ℕ) → less j ≡ true → more j ≡ true) → (k j : ℕ) → j < k → less j ≡ false → more j ≡ true → count_below less k < count_below more k
count_above less more h zero j inside fails passes = absurd (omega arith)
count_above less more h (suc k) j inside fails passes = by_case (cases_lt j k) (λ below. count_above less more h k j below fails passes)
  where
    by_case : (j < k) ⊎ (k ≤ j) → (j < k → count_below less k < count_below more k) → count_below less (suc k) < count_below more (suc k)
    by_case (inl below) above =
        let rest = above below in
        let first = ones_rise (less k) (more k) (h k) in
        omega arith
    by_case (inr from) above =
        let same : j ≡ k = omega arith in
        let rest = count_rises less more h k in
        let none : one_if (less k) ≡ 0 = ap one_if (subst (λ (i : ℕ). less i ≡ false) same fails) in
        let one : one_if (more k) ≡ 1 = ap one_if (subst (λ (i : ℕ). more i ≡ true) same passes) in
        omega arith

-- ---- ranks

abbrev told : {P : Type 0} → P ⊎ (P → ⊥) → Bool
told (inl h) = true
told (inr none) = false

told_true : {P : Type 0} (d : P ⊎ (P → ⊥)) → P → told d ≡ true
told_true (inl h) p = refl
told_true (inr none) p = absurd (none p)

told_false : {P : Type 0} (d : P ⊎ (P → ⊥)) → (P → ⊥) → told d ≡ false
told_false (inl h) never = absurd (never h)
told_false (inr none) never = refl

from_told : {P : Type 0} (d : P ⊎ (P → ⊥)) → told d ≡ true → P
from_told (inl h) e = h
from_told (inr none) e = absurd (cc)

-- whether a way leads from the node of an output to a node
abbrev leads_to : Netlist → ℕ → ℕ → Bool
leads_to n k to = told (way_or_none n (n.nets + k) to)

-- a rank for each output, by its place in `all_outputs`
pub record HasRanks (n : Netlist) : Type 0 where
  pub rank : ℕ → ℕ
  pub most : ℕ
  pub below : (k : ℕ) → rank k ≤ most
  pub rises : (i j : ℕ) (later earlier : Output) → slice_get (all_outputs n) i ≡ Some later → slice_get (all_outputs n) j ≡ Some earlier → Follows n earlier later → rank j < rank i

pub ranks : (n : Netlist) → ((o : Output) → IsOnCycle n o → ⊥) → HasRanks n
ranks n acyclic = record {
  rank = λ k. count_below (leads_to n k) (length (net_graph n));
  most = length (net_graph n);
  below = λ k. count_most (leads_to n k) (length (net_graph n));
  rises = rises;
}
  where
    graph : IsNetGraph n (net_graph n)
    graph = IsNetGraph-made n

    rises : (i j : ℕ) (later earlier : Output) → slice_get (all_outputs n) i ≡ Some later → slice_get (all_outputs n) j ≡ Some earlier → Follows n earlier later
        → count_below (leads_to n j) (length (net_graph n)) < count_below (leads_to n i) (length (net_graph n))
    rises i j later earlier is_i is_j f =
        let arrows = two_arrows n (net_graph n) graph earlier later f i j is_i is_j in
        let inside = slice_get_within (all_outputs n) j earlier is_j in
        let size = graph.size in
        count_above (leads_to n j) (leads_to n i)
        (λ k e. told_true (way_or_none n (n.nets + i) k) (further k arrows (from_told (way_or_none n (n.nets + j) k) e)))
        (length (net_graph n)) (n.nets + j) (omega arith)
        (told_false (way_or_none n (n.nets + j) (n.nets + j)) (λ l. acyclic earlier (leads_cycle n (net_graph n) graph earlier j is_j l)))
        (told_true (way_or_none n (n.nets + i) (n.nets + j)) (f.net ∷ [], (arrows.0, arrows.1)))
      where
        further : (k : ℕ) → HasArrow (net_graph n) (n.nets + i) f.net × HasArrow (net_graph n) f.net (n.nets + j) → Leads (net_graph n) (n.nets + j) k → Leads (net_graph n) (n.nets + i) k
        further k arrows l = (f.net ∷ (n.nets + j) ∷ l.0, (arrows.0, (arrows.1, l.1)))
