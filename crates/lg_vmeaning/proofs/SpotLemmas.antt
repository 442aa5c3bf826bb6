-- What stands at the index of a name.
use Rattle.std.proofs.Common.{◌≡◌, ℕ, suc, ◌+◌, Bool, true, false, List, [], ◌∷◌, map, Option, Some, None, refl, sym, ap, ◌∙◌, arith}
use Rattle.std.specs.Prelude.{option_map, option_and_then, slice_get, find}
use Rattle.std.specs.Str.{bytes_eq}
use Rattle.std.proofs.lemmas.Slice.Eq.{bytes_eq-Decides}
use Rattle.lg_vrules.specs.Indexes.{index_from}

-- the index of a name among names
abbrev pub spot : List (List ℕ) → List ℕ → Option ℕ
spot [] name = None
spot (other ∷ names) name = if_here (bytes_eq other name) (spot names name)
  where
    if_here : Bool → Option ℕ → Option ℕ
    if_here true rest = Some 0
    if_here false rest = option_map suc rest

shifted : (n : ℕ) (o : Option ℕ) → option_map (λ (k : ℕ). n + 1 + k) o ≡ option_map (λ (k : ℕ). n + k) (option_map suc o)
shifted n None = refl
shifted n (Some k) = let e : n + 1 + k ≡ n + suc k = omega arith in ap Some e

spot_from : (n : ℕ) (names : List (List ℕ)) (name : List ℕ) → index_from n names name ≡ option_map (λ (k : ℕ). n + k) (spot names name)
spot_from n [] name = refl
spot_from n (other ∷ names) name = step (bytes_eq other name) refl (spot_from (n + 1) names name)
  where
    step : (b : Bool) → bytes_eq other name ≡ b → index_from (n + 1) names name ≡ option_map (λ (k : ℕ). n + 1 + k) (spot names name)
        → index_from n (other ∷ names) name ≡ option_map (λ (k : ℕ). n + k) (spot (other ∷ names) name)
    step true e rest = let here : n ≡ n + 0 = omega arith in rw e (ap Some here)
    step false e rest = rw e (rest ∙ shifted n (spot names name))

plus_none : (o : Option ℕ) → option_map (λ (k : ℕ). 0 + k) o ≡ o
plus_none None = refl
plus_none (Some k) = let e : 0 + k ≡ k = omega arith in ap Some e

pub spot_is : (names : List (List ℕ)) (name : List ℕ) → index_from 0 names name ≡ spot names name
spot_is names name = spot_from 0 names name ∙ plus_none (spot names name)

-- the first item of a name stands at the index of the name
pub found_at : {A : Type 0} (f : A → List ℕ) (items : List A) (name : List ℕ) → option_and_then (slice_get items) (index_from 0 (map f items) name) ≡ find (λ (a : A). bytes_eq (f a) name) items
found_at {A = A} f items name = ap (option_and_then (slice_get items)) (spot_is (map f items) name) ∙ by items
  where
    later : {A : Type 0} (a : A) (items : List A) (o : Option ℕ) → option_and_then (slice_get (a ∷ items)) (option_map suc o) ≡ option_and_then (slice_get items) o
    later a items None = refl
    later a items (Some k) = refl

    step : {A : Type 0} (f : A → List ℕ) (a : A) (items : List A) (b : Bool) → bytes_eq (f a) name ≡ b → option_and_then (slice_get items) (spot (map f items) name) ≡ find (λ (a : A). bytes_eq (f a) name) items
        → option_and_then (slice_get (a ∷ items)) (spot (map f (a ∷ items)) name) ≡ find (λ (a : A). bytes_eq (f a) name) (a ∷ items)
    step f a items true e rest = rw e refl
    step f a items false e rest = rw e (later a items (spot (map f items) name) ∙ rest)

    by : (items : List A) → option_and_then (slice_get items) (spot (map f items) name) ≡ find (λ (a : A). bytes_eq (f a) name) items
    by [] = refl
    by (a ∷ items) = step f a items (bytes_eq (f a) name) refl (by items)

pub same_names : (a b : List ℕ) → bytes_eq a b ≡ true → bytes_eq b a ≡ true
same_names a b e = (bytes_eq-Decides b a).1 (sym ((bytes_eq-Decides a b).0 e))
