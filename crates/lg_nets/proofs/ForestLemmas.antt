-- Writes to parents that keep what they represent, or that merge two classes.
use Rattle.std.proofs.Common.{◌≡◌, ℕ, ◌<◌, ◌≤◌, ◌≢◌, ◌⊎◌, List, length, get_or, set, min, max, cond, eqb, sym, ap, ◌∙◌, arith, inl, inr, get_or-set_same, get_or-set_other}
use Rattle.std.proofs.lemmas.List.{length-set}
use Rattle.std.proofs.lemmas.Bool.{cases_eq, cond-true, cond-false, eq-eqb, ne_eqb}
use Rattle.lg_nets.specs.Forest.{PointDown, Represents, merged}

-- a fact of the element at each index, once one element is written
at_set : (P : ℕ → ℕ → Type 0) (xs : List ℕ) (at to : ℕ) → at < length xs → P at to → ((i : ℕ) → i ≢ at → i < length xs → P i (get_or xs i 0))
    → (i : ℕ) → i < length (set xs at to) → P i (get_or (set xs at to) i 0)
at_set P xs at to inside here there i less = by_case (cases_eq i at)
  where
    by_case : (i ≡ at) ⊎ (i ≡ at → ⊥) → P i (get_or (set xs at to) i 0)
    by_case (inl e) = rw (e, get_or-set_same xs at to 0 inside) here
    by_case (inr ne) = rw (get_or-set_other xs at i to 0 ne) (there i ne (omega (arith, length-set xs at to)))

pub PointDown-set : (xs : List ℕ) (at to : ℕ) → PointDown xs → at < length xs → to ≤ at → PointDown (set xs at to)
PointDown-set xs at to d inside low = record { down = at_set (λ i p. p ≤ i) xs at to inside low (λ i ne less. d.down i less) }

-- a parent in place of a child's parent
pub Represents-set : (rep : ℕ → ℕ) (xs : List ℕ) (at to : ℕ) → at < length xs → to < at → rep to ≡ rep at → Represents rep xs → Represents rep (set xs at to)
Represents-set rep xs at to inside low same r = record {
  keeps = at_set (λ i p. rep p ≡ rep i) xs at to inside same (λ i ne less. r.keeps i less);
  roots = at_set (λ i p. p ≡ i → rep i ≡ i) xs at to inside (λ e. absurd (omega arith)) (λ i ne less. r.roots i less);
  low = r.low;
}

-- the grandparent is in the same class, and lower
pub up_same : (rep : ℕ → ℕ) (xs : List ℕ) (at : ℕ) → at < length xs → PointDown xs → Represents rep xs → rep (get_or xs (get_or xs at 0) 0) ≡ rep at
up_same rep xs at inside d r = let down = d.down at inside in r.keeps (get_or xs at 0) (omega arith) ∙ r.keeps at inside

pub up_low : (xs : List ℕ) (at : ℕ) → at < length xs → PointDown xs → get_or xs at 0 ≢ at → get_or xs (get_or xs at 0) 0 < at
up_low xs at inside d ne = let down = d.down at inside in let again = d.down (get_or xs at 0) (omega arith) in omega arith

-- ---- two classes made one

-- the merged choice: of a class that is the greater it is the lesser, and of the others as it was
abbrev pub MergedCases : (ℕ → ℕ) → ℕ → ℕ → ℕ → Type 0
MergedCases rep a b k =
    ((rep k ≡ max (rep a) (rep b)) × (merged rep a b k ≡ min (rep a) (rep b)))
    ⊎ ((rep k ≢ max (rep a) (rep b)) × (merged rep a b k ≡ rep k))

pub merged_cases : (rep : ℕ → ℕ) (a b k : ℕ) → MergedCases rep a b k
merged_cases rep a b k = by_case (cases_eq (rep k) (max (rep a) (rep b)))
  where
    by_case : (rep k ≡ max (rep a) (rep b)) ⊎ (rep k ≡ max (rep a) (rep b) → ⊥) → MergedCases rep a b k
    by_case (inl e) = inl (e, cond-true (eqb (rep k) (max (rep a) (rep b))) (min (rep a) (rep b)) (rep k) (eq-eqb (rep k) (max (rep a) (rep b)) e))
    by_case (inr ne) = inr (ne, cond-false (eqb (rep k) (max (rep a) (rep b))) (min (rep a) (rep b)) (rep k) (ne_eqb (rep k) (max (rep a) (rep b)) ne))

-- numbers of one class stay in one class
pub merged_same : (rep : ℕ → ℕ) (a b i j : ℕ) → rep i ≡ rep j → merged rep a b i ≡ merged rep a b j
merged_same rep a b i j e = ap (λ n. cond (eqb n (max (rep a) (rep b))) (min (rep a) (rep b)) n) e

-- the greater of two classes joins the lesser
pub Represents-merged : (rep : ℕ → ℕ) (xs : List ℕ) (a b low high : ℕ) → high < length xs → low ≡ min (rep a) (rep b) → high ≡ max (rep a) (rep b)
    → rep low ≡ low → rep high ≡ high → Represents rep xs → Represents (merged rep a b) (set xs high low)
Represents-merged rep xs a b low high inside is_low is_high low_root high_root r = record {
  keeps = at_set (λ i p. merged rep a b p ≡ merged rep a b i) xs high low inside (at_low (merged_cases rep a b low) ∙ sym (at_high (merged_cases rep a b high)))
      (λ i ne less. merged_same rep a b (get_or xs i 0) i (r.keeps i less));
  roots = at_set (λ i p. p ≡ i → merged rep a b i ≡ i) xs high low inside (λ e. at_high (merged_cases rep a b high) ∙ e)
      (λ i ne less e. at_other i ne (r.roots i less e) (merged_cases rep a b i));
  low = λ i. no_greater i (r.low i) (merged_cases rep a b i);
}
  where
    at_low : MergedCases rep a b low → merged rep a b low ≡ low
    at_low (inl h) = h.1 ∙ sym is_low
    at_low (inr h) = h.1 ∙ low_root

    at_high : MergedCases rep a b high → merged rep a b high ≡ low
    at_high (inl h) = h.1 ∙ sym is_low
    at_high (inr h) = absurd (h.0 (high_root ∙ is_high))

    at_other : (i : ℕ) → i ≢ high → rep i ≡ i → MergedCases rep a b i → merged rep a b i ≡ i
    at_other i ne root (inl h) = absurd (ne (sym root ∙ (h.0 ∙ sym is_high)))
    at_other i ne root (inr h) = h.1 ∙ root

    no_greater : (i : ℕ) → rep i ≤ i → MergedCases rep a b i → merged rep a b i ≤ i
    no_greater i h (inl e) = let f = e.0 in rw e.1 (omega arith)
    no_greater i h (inr e) = rw e.1 h
