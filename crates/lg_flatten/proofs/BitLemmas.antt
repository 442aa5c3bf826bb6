-- Which ports take a net, and the net bits of each port.
use Rattle.std.proofs.Common.{◌≡◌, ℕ, zero, suc, ◌≤◌, ◌<◌, Bool, true, false, cond, List, [], ◌∷◌, ◌++◌, length, take, drop, min, Some, None, refl, sym, subst, arith, ◌⊎◌, inl, inr}
use Rattle.std.specs.Prelude.{slice_get}
use Rattle.std.specs.List.{All, AllZip}
use Rattle.std.specs.Iterator.Adapters.{zip_first, zip_second}
use Rattle.std.specs.Slice.Iter.{iter_rest}
use Rattle.std.specs.declared.iter.Zip.{Zip}
use Rattle.std.specs.declared.slice.Iter.{Iter}
use Rattle.std.proofs.iter.Yields.{fronts}
use Rattle.std.proofs.lemmas.Iterator.{zips}
use Rattle.std.proofs.lemmas.Option.{none-some}
use Rattle.std.proofs.lemmas.Slice.Zip.{either_empty_from_Zip}
use Rattle.std.proofs.lemmas.List.Elements.{All-nil, All-cons, All-head, All-tail}
use Rattle.lg_flatten.specs.Flat.{flagged, by_port}

none_flagged : {A : Type 0} (flags : List Bool) (xs : List A) → (flags ≡ []) ⊎ (xs ≡ []) → flagged flags xs ≡ []
none_flagged [] xs e = refl
none_flagged (true ∷ flags) [] e = refl
none_flagged (false ∷ flags) [] e = refl
none_flagged (b ∷ flags) (x ∷ xs) (inl e) = cc
none_flagged (b ∷ flags) (x ∷ xs) (inr e) = cc

-- when a loop over flags and items has ended, no items are left
pub flagged_ended : {B : Type 0} (s t : Zip (Iter Bool) (Iter B)) → zips fronts fronts s None t → flagged (iter_rest (zip_first s)) (iter_rest (zip_second s)) ≡ []
flagged_ended s t h = none_flagged (iter_rest (zip_first s)) (iter_rest (zip_second s)) (either_empty_from_Zip s t None refl h)

-- the place at which an item was before the others were left out
pub origin : List Bool → ℕ → ℕ
origin [] i = i
origin (true ∷ flags) zero = zero
origin (true ∷ flags) (suc i) = suc (origin flags i)
origin (false ∷ flags) i = suc (origin flags i)

pub flagged_from : {A : Type 0} (flags : List Bool) (xs : List A) (i : ℕ) (x : A) → slice_get (flagged flags xs) i ≡ Some x → slice_get xs (origin flags i) ≡ Some x
unfolding origin
flagged_from [] xs i x e = absurd (none-some x e)
flagged_from (true ∷ flags) [] i x e = absurd (none-some x e)
flagged_from (false ∷ flags) [] i x e = absurd (none-some x e)
flagged_from (true ∷ flags) (y ∷ xs) zero x e = e
flagged_from (true ∷ flags) (y ∷ xs) (suc i) x e = flagged_from flags xs i x e
flagged_from (false ∷ flags) (y ∷ xs) i x e = flagged_from flags xs i x e

pub flagged_short : {A : Type 0} (flags : List Bool) (xs : List A) → length (flagged flags xs) ≤ length xs
flagged_short [] xs = omega arith
flagged_short (true ∷ flags) [] = omega arith
flagged_short (false ∷ flags) [] = omega arith
flagged_short (true ∷ flags) (x ∷ xs) = let more = flagged_short flags xs in omega (arith, more)
flagged_short (false ∷ flags) (x ∷ xs) = let more = flagged_short flags xs in omega (arith, more)

-- as many items are left of lists of one length
pub flagged_as_long : {A B : Type 0} (flags : List Bool) (xs : List A) (ys : List B) → length xs ≡ length ys → length (flagged flags xs) ≡ length (flagged flags ys)
flagged_as_long [] xs ys e = refl
flagged_as_long (b ∷ flags) [] (y ∷ ys) e = absurd (omega (arith, e))
flagged_as_long (b ∷ flags) (x ∷ xs) [] e = absurd (omega (arith, e))
flagged_as_long (true ∷ flags) [] [] e = refl
flagged_as_long (false ∷ flags) [] [] e = refl
flagged_as_long (true ∷ flags) (x ∷ xs) (y ∷ ys) e = let more = flagged_as_long flags xs ys (omega (arith, e)) in omega (arith, more)
flagged_as_long (false ∷ flags) (x ∷ xs) (y ∷ ys) e = flagged_as_long flags xs ys (omega (arith, e))

pub All-flagged : {A : Type 0} (P : A → Type 0) (flags : List Bool) (xs : List A) → All P xs → All P (flagged flags xs)
All-flagged P [] xs all = All-nil P
All-flagged P (true ∷ flags) [] all = All-nil P
All-flagged P (false ∷ flags) [] all = All-nil P
All-flagged P (true ∷ flags) (x ∷ xs) all = All-cons P x (flagged flags xs) (All-head P x xs all) (All-flagged P flags xs (All-tail P x xs all))
All-flagged P (false ∷ flags) (x ∷ xs) all = All-flagged P flags xs (All-tail P x xs all)

-- one port takes one net or none, and those after it take from the others
pub by_port_step : (flag : Bool) (flags : List Bool) (nets : List ℕ) (k : ℕ) → k ≡ min (cond flag 1 0) (length nets) → by_port (flag ∷ flags) nets ≡ take k nets ∷ by_port flags (drop k nets)
by_port_step false flags nets k e = let none : k ≡ 0 = omega (arith, e) in subst (λ (n : ℕ). [] ∷ by_port flags nets ≡ take n nets ∷ by_port flags (drop n nets)) (sym none) refl
by_port_step true flags [] k e = let none : k ≡ 0 = omega (arith, e) in subst (λ (n : ℕ). by_port (true ∷ flags) [] ≡ take n [] ∷ by_port flags (drop n [])) (sym none) refl
by_port_step true flags (net ∷ nets) k e =
    let one : k ≡ 1 = omega (arith, e) in subst (λ (n : ℕ). by_port (true ∷ flags) (net ∷ nets) ≡ take n (net ∷ nets) ∷ by_port flags (drop n (net ∷ nets))) (sym one) refl

-- the net bits of a port: one of the nets where it takes one, and else none
abbrev pub IsBits : ℕ → Bool → List ℕ → Type 0
IsBits count flag bits = (length bits ≡ cond flag 1 0) × All (λ net. net < count) bits

pub by_port_bits : {A : Type 0} (count : ℕ) (flags : List Bool) (xs : List A) (nets : List ℕ) → length xs ≡ length flags → length nets ≡ length (flagged flags xs) → All (λ net. net < count) nets
    → AllZip (IsBits count) flags (by_port flags nets)
by_port_bits count [] xs nets e l all = tt
by_port_bits count (b ∷ flags) [] nets e l all = absurd (omega (arith, e))
by_port_bits count (false ∷ flags) (x ∷ xs) nets e l all = ((refl, All-nil (λ (net : ℕ). net < count)), by_port_bits count flags xs nets (omega (arith, e)) l all)
by_port_bits count (true ∷ flags) (x ∷ xs) [] e l all = absurd (omega (arith, l))
by_port_bits count (true ∷ flags) (x ∷ xs) (net ∷ nets) e l all =
    let below : ℕ → Type 0 = λ n. n < count in
    let own = All-cons below net [] (All-head below net nets all) (All-nil below) in
    ((refl, own), by_port_bits count flags xs nets (omega (arith, e)) (omega (arith, l)) (All-tail below net nets all))

-- what holds of two lists place by place, where the first is in two parts
pub AllZip-first : {A B : Type 0} (R : A → B → Type 0) (n : ℕ) (xs others : List A) (ys : List B) → length xs ≡ n → AllZip R (xs ++ others) ys → AllZip R xs (take n ys)
AllZip-first R n [] others ys e h = let none : n ≡ 0 = omega (arith, e) in subst (λ (k : ℕ). AllZip R [] (take k ys)) (sym none) tt
AllZip-first R zero (x ∷ xs) others ys e h = absurd (omega (arith, e))
AllZip-first R (suc n) (x ∷ xs) others [] e h = absurd h
AllZip-first R (suc n) (x ∷ xs) others (y ∷ ys) e h = (h.0, AllZip-first R n xs others ys (omega (arith, e)) h.1)

pub AllZip-second : {A B : Type 0} (R : A → B → Type 0) (n : ℕ) (xs others : List A) (ys : List B) → length xs ≡ n → AllZip R (xs ++ others) ys → AllZip R others (drop n ys)
AllZip-second R n [] others ys e h = let none : n ≡ 0 = omega (arith, e) in subst (λ (k : ℕ). AllZip R others (drop k ys)) (sym none) h
AllZip-second R zero (x ∷ xs) others ys e h = absurd (omega (arith, e))
AllZip-second R (suc n) (x ∷ xs) others [] e h = absurd h
AllZip-second R (suc n) (x ∷ xs) others (y ∷ ys) e h = AllZip-second R n xs others ys (omega (arith, e)) h.1
