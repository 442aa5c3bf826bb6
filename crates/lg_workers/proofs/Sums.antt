-- Sums over views: one view changed, one view alone, and counts of numbers in a list.
use Rattle.std.proofs.Common.{◌≡◌, ◌≢◌, ℕ, zero, suc, ◌+◌, ◌≤◌, List, [], ◌∷◌, ◌++◌, set, sum_by, count_by, cond, Bool, sym, refl, ap, arith}
use Rattle.std.proofs.lemmas.List.Sums.{sum_by-cons, sum_by-append, sum_by_push}
use mathlib.Core.Option.{some, some-injective, some-ne-none}
use lib.ListN.{get_elem?}

module _ {X : Type 0} (f : X → ℕ) where
  -- A sum after one item was changed.
  pub sum_set : (xs : List X) (i : ℕ) (x y : X) → get_elem? xs i ≡ some x → sum_by f (set xs i y) + f x ≡ sum_by f xs + f y
  sum_set [] i x y e = absurd (some-ne-none x (sym e))
  sum_set (z ∷ zs) zero x y e =
      let p = sum_by-cons f z zs in let q = sum_by-cons f y zs in let r = ap f (some-injective z x e) in omega arith
  sum_set (z ∷ zs) (suc i) x y e =
      let p = sum_by-cons f z zs in let q = sum_by-cons f z (set zs i y) in let r = sum_set zs i x y e in omega arith

  -- One item is no more than the sum.
  pub item_le_sum : (xs : List X) (i : ℕ) (x : X) → get_elem? xs i ≡ some x → f x ≤ sum_by f xs
  item_le_sum [] i x e = absurd (some-ne-none x (sym e))
  item_le_sum (z ∷ zs) zero x e = let p = sum_by-cons f z zs in let r = ap f (some-injective z x e) in omega arith
  item_le_sum (z ∷ zs) (suc i) x e = let p = sum_by-cons f z zs in let r = item_le_sum zs i x e in omega arith

  -- Two items are no more than the sum.
  pub two_le_sum : (xs : List X) (i j : ℕ) (x y : X) → j ≢ i → get_elem? xs i ≡ some x → get_elem? xs j ≡ some y → f x + f y ≤ sum_by f xs
  two_le_sum [] i j x y n e d = absurd (some-ne-none x (sym e))
  two_le_sum (z ∷ zs) zero zero x y n e d = absurd (n refl)
  two_le_sum (z ∷ zs) zero (suc j) x y n e d =
      let p = sum_by-cons f z zs in let r = ap f (some-injective z x e) in let q = item_le_sum zs j y d in omega arith
  two_le_sum (z ∷ zs) (suc i) zero x y n e d =
      let p = sum_by-cons f z zs in let r = ap f (some-injective z y d) in let q = item_le_sum zs i x e in omega arith
  two_le_sum (z ∷ zs) (suc i) (suc j) x y n e d =
      let p = sum_by-cons f z zs in let q = two_le_sum zs i j x y (λ m. n (ap suc m)) e d in omega arith

  pub none_in_sum : (xs : List X) → ((j : ℕ) (y : X) → get_elem? xs j ≡ some y → f y ≡ 0) → sum_by f xs ≡ 0
  none_in_sum [] all = refl
  none_in_sum (z ∷ zs) all =
      let p = sum_by-cons f z zs in let a = all zero z refl in let q = none_in_sum zs (λ j y d. all (suc j) y d) in omega arith

  -- Where all other items count nothing, the sum is the one item.
  pub alone_in_sum : (xs : List X) (i : ℕ) (x : X) → get_elem? xs i ≡ some x → ((j : ℕ) (y : X) → j ≢ i → get_elem? xs j ≡ some y → f y ≡ 0) → sum_by f xs ≡ f x
  alone_in_sum [] i x e others = absurd (some-ne-none x (sym e))
  alone_in_sum (z ∷ zs) zero x e others =
      let p = sum_by-cons f z zs in let r = ap f (some-injective z x e) in
      let q = none_in_sum zs (λ j y d. others (suc j) y (λ m. absurd (omega arith)) d) in omega arith
  alone_in_sum (z ∷ zs) (suc i) x e others =
      let p = sum_by-cons f z zs in let a = others zero z (λ m. absurd (omega arith)) refl in
      let q = alone_in_sum zs i x e (λ j y n d. others (suc j) y (λ m. n (omega arith)) d) in omega arith

  -- A sum of no more in each item is no more.
  pub sum_le : (g : X → ℕ) (xs : List X) → ((j : ℕ) (y : X) → get_elem? xs j ≡ some y → f y ≤ g y) → sum_by f xs ≤ sum_by g xs
  sum_le g [] all = omega arith
  sum_le g (z ∷ zs) all =
      let p = sum_by-cons f z zs in let q = sum_by-cons g z zs in let a = all zero z refl in let r = sum_le g zs (λ j y d. all (suc j) y d) in omega arith

  -- The sum of two counts is the sum of their sums.
  pub sum_of_two : (g : X → ℕ) (xs : List X) → sum_by (λ x. f x + g x) xs ≡ sum_by f xs + sum_by g xs
  sum_of_two g [] = refl
  sum_of_two g (z ∷ zs) =
      let p = sum_by-cons f z zs in let q = sum_by-cons g z zs in let r = sum_by-cons (λ x. f x + g x) z zs in let s = sum_of_two g zs in omega arith

-- A count after a number was put behind the list.
pub count_push : (p : ℕ → Bool) (numbers : List ℕ) (n : ℕ) → count_by p (numbers ++ n ∷ []) ≡ count_by p numbers + cond (p n) 1 0
count_push p numbers n = sum_by_push (λ x. cond (p x) 1 0) numbers n

pub count_append : (p : ℕ → Bool) (xs ys : List ℕ) → count_by p (xs ++ ys) ≡ count_by p xs + count_by p ys
count_append p xs ys = sum_by-append (λ x. cond (p x) 1 0) xs ys
