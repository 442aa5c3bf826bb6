-- Numbers that are read digit by digit.
use Rattle.std.proofs.Common.{◌≡◌, ℕ, ◌+◌, ◌-◌, ◌*◌, ◌%◌, ◌^◌, ◌<◌, ◌≤◌, Bool, true, false, cond, ◌||◌, ◌⊎◌, inl, inr, List, [], ◌∷◌, ◌++◌, length, get_or, take, drop, refl, ◌∙◌, arith, take-append-drop, rules}
use Rattle.std.specs.Prelude.{nat_lt}
use Rattle.std.specs.List.{All}
use Rattle.std.proofs.Math.Nat.{mul-le-mul_right}
use Rattle.std.proofs.lemmas.Nat.{pow_pos, mul-mod_first}
use Rattle.std.proofs.lemmas.Bool.Decides.{eqb_tells}
use Rattle.std.proofs.lemmas.List.{take_more}
use Rattle.std.proofs.lemmas.List.Sums.{fold-append}
use Rattle.lg_vectors.specs.Apart.{AreApart}
use Rattle.lg_vectors.specs.CaredBits.{CaredBits}
use Rattle.lg_vectors.specs.Values.{digit_value, is_free, is_digit, known_part, free_part, number_from, free_from, cared_but, AreDigits}
use Rattle.lg_vectors.proofs.BitLemmas.{apart_more, word_of_number-wrapped}

-- one more digit, as at a step of a loop
pub number_more : (base : ℕ) (text : List ℕ) (i : ℕ) → i < length text → number_from base 0 (take (i + 1) text) ≡ number_from base 0 (take i text) * base + known_part (get_or text i 0)
number_more base text i inside =
    rw (take_more text i 0 inside) (fold-append (λ n c. n * base + known_part c) 0 (take i text) (get_or text i 0 ∷ []))

pub free_more : (size : ℕ) (text : List ℕ) (i : ℕ) → i < length text → free_from size 0 (take (i + 1) text) ≡ free_from size 0 (take i text) * 2 ^ size + free_part size (get_or text i 0)
free_more size text i inside =
    rw (take_more text i 0 inside) (fold-append (λ n c. n * 2 ^ size + free_part size c) 0 (take i text) (get_or text i 0 ∷ []))

grows_once : (base n d : ℕ) → 1 ≤ base → n ≤ n * base + d
grows_once base n d some = omega (arith, mul-le-mul_right n some, times_comm base n)
  where
    times_comm : (a b : ℕ) → a * b ≡ b * a
    times_comm a b = grind arith

-- more digits make no smaller number
grows : (base n : ℕ) (text : List ℕ) → 1 ≤ base → n ≤ number_from base n text
grows base n [] some = omega arith
grows base n (c ∷ text) some =
    omega (arith, grows_once base n (known_part c) some, grows base (n * base + known_part c) text some)

-- what is read is no greater than the whole
number_from-le : (base : ℕ) (text : List ℕ) (i : ℕ) → 1 ≤ base → number_from base 0 (take i text) ≤ number_from base 0 text
number_from-le base text i some =
    let whole : number_from base 0 (take i text ++ drop i text) ≡ number_from base (number_from base 0 (take i text)) (drop i text) = fold-append (λ n c. n * base + known_part c) 0 (take i text) (drop i text) in
    let same : number_from base 0 text ≡ number_from base (number_from base 0 (take i text)) (drop i text) = rw take-append-drop at whole in
    rw same (grows base (number_from base 0 (take i text)) (drop i text) some)

-- the whole is past a limit where what is read is
pub past_most : (base : ℕ) (text : List ℕ) (i number digit most : ℕ) → 1 ≤ base → i < length text → number ≡ number_from base 0 (take i text) → digit ≡ known_part (get_or text i 0) → most < number * base + digit → most < number_from base 0 text
past_most base text i number digit most some inside so_far here past =
    let more = number_more base text i inside in
    let below : number_from base 0 (take (i + 1) text) ≤ number_from base 0 text = number_from-le base text (i + 1) some in
    let over : most < number_from base 0 (take (i + 1) text) = rw (more, ← so_far, ← here) past in
    omega (arith, below, over)

-- what the code keeps of the number of bits that are not cared for
pub wrapped_more : (f b e : ℕ) → (f % 18446744073709551616 * b % 18446744073709551616 + e) % 18446744073709551616 ≡ (f * b + e) % 18446744073709551616
wrapped_more f b e =
    let product : f % 18446744073709551616 * b % 18446744073709551616 ≡ f * b % 18446744073709551616 = mul-mod_first f b 18446744073709551616 in
    rw product (sum_wraps (f * b) e)
  where
    sum_wraps : (a e : ℕ) → (a % 18446744073709551616 + e) % 18446744073709551616 ≡ (a + e) % 18446744073709551616
    sum_wraps a e = omega arith

parts_apart : (size c : ℕ) (free : Bool) → is_free c ≡ free → (free || nat_lt (digit_value c) (2 ^ size)) ≡ true → (cond free 0 (digit_value c) < 2 ^ size) × (cond free (2 ^ size - 1) 0 < 2 ^ size) × ((cond free 0 (digit_value c) ≡ 0) ⊎ (cond free (2 ^ size - 1) 0 ≡ 0))
parts_apart size c true e h = (pow_pos size, omega (arith, pow_pos size), inl refl)
parts_apart size c false e h =
    let below : digit_value c < 2 ^ size = search rules in
    (below, pow_pos size, inr refl)

-- digits keep the numbers apart
pub apart_digit : (size c number free : ℕ) → is_digit size c ≡ true → AreApart number free → AreApart (number * 2 ^ size + known_part c) (free * 2 ^ size + free_part size c)
apart_digit size c number free digit apart =
    let parts = parts_apart size c (is_free c) refl digit in
    apart_more number free size (known_part c) (free_part size c) parts.0 parts.1 parts.2 apart

-- a decimal digit is no `x`
pub known_decimal : (c : ℕ) → digit_value c < 10 → known_part c ≡ digit_value c
known_decimal c small = elim (eqb_tells c 120) as (λ _. known_part c ≡ digit_value c) [
  | inl e ↦ absurd (no_digit c e.1 small)
  | inr e ↦ rw e.0 refl
]
  where
    no_digit : (c : ℕ) → c ≡ 120 → digit_value c < 10 → ⊥
    no_digit c e small = let free : digit_value 120 < 10 = rw e at small in omega (arith, free)

-- all digits are read
pub are_digits : (size width : ℕ) (text : List ℕ) (number free : ℕ) (value : CaredBits) → width ≤ 64 → All (λ c. is_digit size c ≡ true) text → number ≡ number_from (2 ^ size) 0 text → free ≡ free_from size 0 text % 2 ^ 64 → number < 2 ^ width → value ≡ cared_but width number free
    → AreDigits size width text value
are_digits size width text number free value short digits is_number is_free fits e = record {
  digits = digits;
  fits = rw (← is_number) fits;
  same = e ∙ rw (is_number, is_free, word_of_number-wrapped width (free_from size 0 text) short) refl;
}
