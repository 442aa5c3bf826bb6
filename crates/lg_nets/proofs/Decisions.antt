-- Facts of which it can be told whether they hold.
use Rattle.std.proofs.Common.{◌≡◌, ℕ, zero, suc, ◌<◌, ◌⊎◌, Bool, true, false, IsTrue, List, [], ◌∷◌, length, map, get_or, refl, sym, subst, ◌∙◌, arith, inl, inr}
use Rattle.std.specs.Prelude.{ℤ, ◌≤ℤ◌, ◌↔◌, Contains}
use Rattle.std.specs.Ordering.{int_eq}
use Rattle.std.specs.List.{range_with_len}
use Rattle.std.proofs.lemmas.Bool.{cases_Bool, cases_eq, false≢true}
use Rattle.std.proofs.lemmas.Bool.Decides.{Decides-int_eq}
use Rattle.std.proofs.lemmas.Int.{ints, by_lt_z}
use Rattle.std.proofs.lemmas.List.FromFn.{length-map-range_with_len, get_or-map-range_with_len}

-- it holds or not
abbrev pub Decided : Type 0 → Type 0
Decided P = P ⊎ (P → ⊥)

pub either_as : {P Q : Type 0} → (P → Q) → (Q → P) → Decided P → Decided Q
either_as to from (inl p) = inl (to p)
either_as to from (inr fails) = inr (λ q. fails (from q))

pub both_or_not : {P Q : Type 0} → Decided P → Decided Q → Decided (P × Q)
both_or_not (inl p) (inl q) = inl (p, q)
both_or_not (inl p) (inr fails) = inr (λ h. fails h.1)
both_or_not (inr fails) q = inr (λ h. fails h.0)

pub one_or_none : {P Q : Type 0} → Decided P → Decided Q → Decided (P ⊎ Q)
one_or_none (inl p) q = inl (inl p)
one_or_none (inr fails) (inl q) = inl (inr q)
one_or_none {P} {Q} (inr fails) (inr none) = inr neither
  where
    neither : P ⊎ Q → ⊥
    neither (inl p) = fails p
    neither (inr q) = none q

pub same_or_not : (x y : ℤ) → Decided (x ≡ y)
same_or_not x y = by_test (cases_Bool (int_eq x y))
  where
    by_test : (int_eq x y ≡ true) ⊎ (int_eq x y ≡ false) → Decided (x ≡ y)
    by_test (inl t) = inl ((Decides-int_eq x y).0 t)
    by_test (inr f) = inr (λ e. false≢true (sym f ∙ (Decides-int_eq x y).1 e))

pub up_to_or_not : (x y : ℤ) → Decided (x ≤ℤ y)
up_to_or_not x y = by_lt_z y x (λ less. inr (λ le. omega (arith, ints))) (λ le. inl le)

-- one of the elements is such
abbrev pub SomeIn : {X : Type 0} → (X → Type 0) → List X → Type 0
SomeIn {X} Q xs = (x : X) × Contains xs x × Q x

pub some_in_or_none : {X : Type 0} (Q : X → Type 0) → ((x : X) → Decided (Q x)) → (xs : List X) → Decided (SomeIn Q xs)
some_in_or_none {X} Q decide [] = inr (λ h. absurd (let less = h.1.1 in omega arith))
some_in_or_none {X} Q decide (x ∷ xs) = by_first (decide x) (some_in_or_none Q decide xs)
  where
    by_first : Decided (Q x) → Decided (SomeIn Q xs) → Decided (SomeIn Q (x ∷ xs))
    by_first (inl q) more = inl (x, (0, omega arith, refl), q)
    by_first (inr fails) (inl h) = inl (h.0, (suc h.1.0, (let less = h.1.1 in omega arith), h.1.2), h.2)
    by_first (inr fails) (inr none) = inr (λ h. at_place h.0 h.1.0 h.1.1 h.1.2 h.2)
      where
        at_place : (y : X) (k : ℕ) → k < length (x ∷ xs) → get_or (x ∷ xs) k y ≡ y → Q y → ⊥
        at_place y zero less e q = fails (subst Q (sym e) q)
        at_place y (suc k) less e q = none (y, (k, omega arith, e), q)

-- some number below the bound is such
abbrev pub SomeBelow : (ℕ → Type 0) → ℕ → Type 0
SomeBelow Q n = (i : ℕ) × (i < n) × Q i

pub some_below_or_none : (Q : ℕ → Type 0) → ((i : ℕ) → Decided (Q i)) → (n : ℕ) → Decided (SomeBelow Q n)
some_below_or_none Q decide zero = inr (λ h. absurd (let less = h.1 in omega arith))
some_below_or_none Q decide (suc n) = by_last (decide n) (some_below_or_none Q decide n)
  where
    by_last : Decided (Q n) → Decided (SomeBelow Q n) → Decided (SomeBelow Q (suc n))
    by_last (inl q) before = inl (n, omega arith, q)
    by_last (inr fails) (inl h) = inl (h.0, (let less = h.1 in omega arith), h.2)
    by_last (inr fails) (inr none) = inr (λ h. at_place h.0 h.1 h.2 (cases_eq h.0 n))
      where
        at_place : (i : ℕ) → i < suc n → Q i → (i ≡ n) ⊎ (i ≡ n → ⊥) → ⊥
        at_place i less q (inl e) = fails (subst Q e q)
        at_place i less q (inr ne) = none (i, omega arith, q)

-- whether it holds, as a flag
flag : {P : Type 0} → Decided P → Bool
flag (inl p) = true
flag (inr fails) = false

flag_says : {P : Type 0} (d : Decided P) → IsTrue (flag d) ↔ P
unfolding flag
flag_says (inl p) = (λ t. p, λ q. refl)
flag_says (inr fails) = (λ t. absurd (false≢true t), λ q. absurd (fails q))

-- flags that say of each number below the bound whether it is such
pub record AreFlags (Q : ℕ → Type 0) (n : ℕ) (flags : List Bool) : Type 0 where
  pub one_each : length flags ≡ n
  pub says : (i : ℕ) → i < n → IsTrue (get_or flags i false) ↔ Q i

pub flags_exist : (Q : ℕ → Type 0) → ((i : ℕ) → Decided (Q i)) → (n : ℕ) → (flags : List Bool) × AreFlags Q n flags
flags_exist Q decide n = (
  map of (range_with_len 0 n),
  record {
    one_each = length-map-range_with_len of 0 n;
    says = λ i less. subst (λ (b : Bool). IsTrue b ↔ Q i) (sym (get_or-map-range_with_len of 0 n i i false less (omega arith))) (flag_says (decide i));
  },
)
  where
    of : ℕ → Bool
    of i = flag (decide i)
