-- The bytes of a class at the front of a text.
use Rattle.std.proofs.Common.{◌≡◌, ℕ, zero, suc, ◌+◌, ◌<◌, ◌≤◌, Bool, true, false, cond, List, [], ◌∷◌, length, get_or, take, drop, refl, subst, arith, inl, inr}
use Rattle.std.specs.List.{prefix_len}
use Rattle.std.specs.Str.{IsUtf8, IsCharBoundary}
use Rattle.std.proofs.lemmas.Str.{IsCharBoundary-start, IsCharBoundary-after_ascii}
use Rattle.std.proofs.lemmas.List.Sums.{prefix_len_passes, prefix_len_stops, prefix_len-le-length}
use Rattle.std.proofs.lemmas.Bool.{cases_lt}
use Rattle.std.proofs.lemmas.Bool.Decides.{nat_tests}
use Rattle.std.proofs.lemmas.Grind.{common_steps}
use Rattle.lg_circ.specs.declared.class.Class.{Class}
use Rattle.lg_circ.specs.declared.class.Class.TheVariants.{White, NameStart, Name, Reference, Own, Characters, Double, Single, TagEnd}
use Rattle.lg_circ.specs.Reading.{passes, front_of, rest_of}

pub take-front : (p : ℕ → Bool) (xs : List ℕ) → take (prefix_len p xs) xs ≡ front_of p xs
take-front p [] = refl
take-front p (x ∷ xs) = elim (p x) as (λ b. take (cond b (1 + prefix_len p xs) 0) (x ∷ xs) ≡ cond b (x ∷ front_of p xs) []) [ true ↦ grind (arith, common_steps, take-front p xs) | false ↦ refl ]

pub drop-front : (p : ℕ → Bool) (xs : List ℕ) → drop (prefix_len p xs) xs ≡ rest_of p xs
drop-front p [] = refl
drop-front p (x ∷ xs) = elim (p x) as (λ b. drop (cond b (1 + prefix_len p xs) 0) (x ∷ xs) ≡ cond b (rest_of p xs) (x ∷ xs)) [ true ↦ grind (arith, common_steps, drop-front p xs) | false ↦ refl ]

-- a class has only bytes of ASCII, or all others
pub others_alike : (class : Class) (c : ℕ) → 128 ≤ c → (passes class c ≡ passes class 200)
others_alike White c h = grind (arith, nat_tests)
others_alike NameStart c h = grind (arith, nat_tests)
others_alike Name c h = grind (arith, nat_tests)
others_alike Reference c h = grind (arith, nat_tests)
others_alike Own c h = grind (arith, nat_tests)
others_alike Characters c h = grind (arith, nat_tests)
others_alike Double c h = grind (arith, nat_tests)
others_alike Single c h = grind (arith, nat_tests)
others_alike TagEnd c h = grind (arith, nat_tests)

-- where a class stops, the text may be cut
cut_at : (class : Class) (bs : List ℕ) (n : ℕ) → IsUtf8 bs → n ≤ length bs → ((k : ℕ) → k < n → passes class (get_or bs k 0) ≡ true) → (n < length bs → passes class (get_or bs n 0) ≡ false) → IsCharBoundary bs n
cut_at class bs zero u le before here = IsCharBoundary-start bs u
cut_at class bs (suc m) u le before here = (
  le,
  λ lt big.
      let stops = here lt in
      let last = before m (omega arith) in
      let same = others_alike class (get_or bs (suc m) 0) big in
      elim (cases_lt (get_or bs m 0) 128) [
        | inl small ↦ let b : IsCharBoundary bs (m + 1) = IsCharBoundary-after_ascii bs m u (omega arith) small in
            let e : m + 1 ≡ suc m = omega arith in
            let moved = subst (λ (k : ℕ). IsCharBoundary bs k) e b in moved.1 lt big
        | inr large ↦ let other = others_alike class (get_or bs m 0) large in absurd cc
      ],
)

pub front_cut : (class : Class) (bs : List ℕ) → IsUtf8 bs → IsCharBoundary bs (prefix_len (passes class) bs)
front_cut class bs u = cut_at class bs (prefix_len (passes class) bs) u (prefix_len-le-length (passes class) bs) (λ k lt. prefix_len_passes (passes class) bs k 0 lt) (λ lt. prefix_len_stops (passes class) bs 0 lt)
