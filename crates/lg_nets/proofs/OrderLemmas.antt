-- The order of nodes: by rows, and along a row.
use Rattle.std.proofs.Common.{◌≡◌, ℕ, ◌<◌, ◌≤◌, ◌⊎◌, false, List, ◌∷◌, length, get_or, refl, sym, subst, ◌∙◌, arith, inl, inr, zero, suc, Ordering}
use Rattle.std.specs.Prelude.{◌≤ℤ◌, ◌<ℤ◌, Contains}
use Rattle.std.specs.Ordering.{int_cmp, nat_cmp, is_lt, ordering_then, MatchOrdering}
use Rattle.std.specs.declared.cmp.Ordering.TheVariants.{Less, Equal, Greater}
use Rattle.std.specs.Cmp.{IsTotalOrder}
use Rattle.std.specs.List.Sorted.{IsSorted}
use Rattle.std.proofs.lemmas.Cmp.{int_ranked, int_cmp_total, nat_cmp_total, on_total, then_total}
use Rattle.std.proofs.lemmas.List.Sorted.{sorted_far, ranks_by}
use Rattle.std.proofs.lemmas.Int.{ints}
use Rattle.std.proofs.lemmas.Bool.{false≢true}
use Rattle.lg_nets.specs.declared.rows.Node.{Node}

-- the second node lies in a later row, or no less far along one row
abbrev pub Upto : Node → Node → Type 0
Upto a b = (a.across <ℤ b.across) ⊎ ((a.across ≡ b.across) × (a.along ≤ℤ b.along))

abbrev node_cmp : Node → Node → Ordering
node_cmp a b = ordering_then (int_cmp a.across b.across) (ordering_then (int_cmp a.along b.along) (ordering_then (int_cmp a.reach b.reach) (nat_cmp a.place b.place)))

node_cmp_total : IsTotalOrder node_cmp
node_cmp_total = then_total (on_total (λ (n : Node). n.across) int_cmp_total) (then_total (on_total (λ (n : Node). n.along) int_cmp_total) (then_total (on_total (λ (n : Node). n.reach) int_cmp_total) (on_total (λ (n : Node). n.place) nat_cmp_total)))

upto_from : (a b : Node) → is_lt (node_cmp b a) ≡ false → Upto a b
upto_from a b h = by_across (int_cmp b.across a.across) (int_cmp b.along a.along) (int_ranked b.across a.across _ refl) (int_ranked b.along a.along _ refl) h
  where
    by_along : (p q : Ordering) → b.across ≡ a.across → MatchOrdering p (b.along <ℤ a.along) (b.along ≡ a.along) (a.along <ℤ b.along)
        → is_lt (ordering_then p q) ≡ false → Upto a b
    by_along Less q e m h = absurd (false≢true (sym h))
    by_along Equal q e m h = inr (sym e, omega (arith, ints))
    by_along Greater q e m h = inr (sym e, omega (arith, ints))

    by_across : (o p : Ordering) → MatchOrdering o (b.across <ℤ a.across) (b.across ≡ a.across) (a.across <ℤ b.across)
        → MatchOrdering p (b.along <ℤ a.along) (b.along ≡ a.along) (a.along <ℤ b.along)
        → is_lt (ordering_then o (ordering_then p (ordering_then (int_cmp b.reach a.reach) (nat_cmp b.place a.place)))) ≡ false → Upto a b
    by_across Less p m n h = absurd (false≢true (sym h))
    by_across Equal p m n h = by_along p _ m n h
    by_across Greater p m n h = inl m

-- each node is up to those after it
pub record InOrder (nodes : List Node) : Type 0 where
  pub upto : (i j : ℕ) (d : Node) → i ≤ j → j < length nodes → Upto (get_or nodes i d) (get_or nodes j d)

pub InOrder-from_sorted : (nodes : List Node) → IsSorted node_cmp nodes → InOrder nodes
InOrder-from_sorted nodes h = record {
  upto = λ i j d le less. upto_from (get_or nodes i d) (get_or nodes j d)
      (sorted_far (λ x y. is_lt (node_cmp x y)) (ranks_by node_cmp_total (λ (n : Node). n)) nodes h i j d le less);
}

pub InOrder-tail : (n : Node) (nodes : List Node) → InOrder (n ∷ nodes) → InOrder nodes
InOrder-tail n nodes o = record { upto = λ i j d le less. o.upto (suc i) (suc j) d (omega arith) (omega arith) }

pub InOrder-first : (n : Node) (nodes : List Node) (m : Node) → InOrder (n ∷ nodes) → Contains nodes m → Upto n m
InOrder-first n nodes m o h = subst (Upto n) h.2 (o.upto 0 (suc h.0) m (omega arith) (omega (arith, h.1)))

-- the order does not look at how far the first node reaches
pub InOrder-reach : (n m : Node) (nodes : List Node) → n.across ≡ m.across → n.along ≡ m.along → InOrder (n ∷ nodes) → InOrder (m ∷ nodes)
InOrder-reach n m nodes e f o = record { upto = by_place }
  where
    upto_itself : Upto m m
    upto_itself = inr (refl, omega (arith, ints))

    from_first : (b : Node) → Upto n b → Upto m b
    from_first b (inl less) = inl (rw (sym e) less)
    from_first b (inr h) = inr (sym e ∙ h.0, rw (sym f) h.1)

    by_place : (i j : ℕ) (d : Node) → i ≤ j → j < length (m ∷ nodes) → Upto (get_or (m ∷ nodes) i d) (get_or (m ∷ nodes) j d)
    by_place zero zero d le less = upto_itself
    by_place zero (suc j) d le less = from_first (get_or nodes j d) (o.upto 0 (suc j) d le less)
    by_place (suc i) zero d le less = absurd (omega arith)
    by_place (suc i) (suc j) d le less = o.upto (suc i) (suc j) d le less
