-- Counts of ones, and the width that a count fits.
use Rattle.std.proofs.Common.{◌≡◌, ℕ, zero, suc, ◌+◌, ◌-◌, ◌*◌, ◌^◌, ◌<◌, ◌≤◌, Bool, true, false, ltb, ◌∙◌, arith, length, get_or, replicate, List, inl, inr}
use Rattle.std.specs.Prelude.{not}
use Rattle.std.specs.List.{position_or_len, range_with_len}
use Rattle.std.proofs.lemmas.Nat.{leading_length}
use Rattle.std.proofs.lemmas.Bool.{cases_lt, ltb-true, ltb-false}
use Rattle.std.proofs.lemmas.List.Sums.{fails_before_first, passes_at_first, prefix_len-le-length}
use Rattle.std.proofs.lemmas.List.FromFn.{length-range_with_len, get_or-range_with_len}
use Rattle.std.proofs.Math.Nat.{pow-succ'}
use Rattle.std.proofs.Math.Pow.{pow_mono}
use Rattle.std.specs.Int.Count.{count_leading_zeros}
use Rattle.lg_value.specs.declared.bit.Bit.{Bit}
use Rattle.lg_value.specs.declared.bit.Bit.TheVariants.{Error}
use Rattle.lg_value.specs.Word.{IsWidth, word_of_number}
use Rattle.lg_arith.specs.Operands.{are_defined}
use Rattle.lg_arith.specs.Count.{ones_of, greatest_count, least_width, count_of}
use Rattle.lg_arith.proofs.OperandLemmas.{length-word_output, word_output_undefined, word_output_defined}

pow_above : (n : ℕ) → n < 2 ^ n
pow_above zero = omega arith
pow_above (suc n) = rw (pow-succ' 2 n) (omega (arith, pow_above n))

power_within : (n width k : ℕ) → 2 ^ width ≤ 2 * n + 1 → k < width → 2 ^ k ≤ n
power_within n width k least below =
    let next : 2 ^ suc k ≤ 2 ^ width = pow_mono {i = suc k} {j = width} (omega arith) in
    omega (arith, pow-succ' 2 k)

passes_at_least : (n : ℕ) → least_width n < n → n < 2 ^ least_width n
unfolding least_width
passes_at_least n within =
    let test : ℕ → Bool = λ width. ltb n (2 ^ width) in
    let place : ℕ = position_or_len test (range_with_len 0 n) in
    let inside : place < length (range_with_len 0 n) = rw (length-range_with_len 0 n) within in
    let value : get_or (range_with_len 0 n) place 0 ≡ place = get_or-range_with_len 0 n place 0 within ∙ omega arith in
    rw value at (ltb-true n (2 ^ get_or (range_with_len 0 n) place 0) (passes_at_first test (range_with_len 0 n) 0 inside))

fails_below_least : (n width : ℕ) → width < least_width n → 2 ^ width ≤ n
unfolding least_width
fails_below_least n width below =
    let test : ℕ → Bool = λ w. ltb n (2 ^ w) in
    let whole : least_width n ≤ n = rw (length-range_with_len 0 n) at (prefix_len-le-length (λ w. not (test w)) (range_with_len 0 n)) in
    let value : get_or (range_with_len 0 n) width 0 ≡ width = get_or-range_with_len 0 n width 0 (omega arith) ∙ omega arith in
    rw value at (ltb-false n (2 ^ get_or (range_with_len 0 n) width 0) (fails_before_first test (range_with_len 0 n) width 0 below))

-- a number fits its least width
pub least_width_fits : (n : ℕ) → n < 2 ^ least_width n
least_width_fits n = elim (cases_lt (least_width n) n) [
  | inl within ↦ passes_at_least n within
  | inr past ↦
      let higher : 2 ^ n ≤ 2 ^ least_width n = pow_mono {i = n} {j = least_width n} past in
      omega (arith, pow_above n)
]

-- and no lesser width
pub least_width_least : (n width : ℕ) → n < 2 ^ width → least_width n ≤ width
least_width_least n width fits = elim (cases_lt width (least_width n)) [
  | inl below ↦ absurd (omega (arith, fails_below_least n width below))
  | inr above ↦ above
]

-- what the code counts: the places that leading zeros leave
pub least_width-leading : (n : ℕ) → n < 2 ^ 32 → 32 - count_leading_zeros 32 n ≡ least_width n
least_width-leading n small =
    let found = leading_length 32 n small in
    let most : least_width n ≤ found.0 = least_width_least n found.0 found.2 in
    elim (cases_lt (least_width n) found.0) [
      | inl below ↦ absurd (omega (arith, power_within n found.0 (least_width n) found.3 below, least_width_fits n))
      | inr above ↦ omega arith
    ]

zero_width : (n width : ℕ) → 1 ≤ n → n < 2 ^ width → 1 ≤ width
zero_width n zero some fits = absurd (omega arith)
zero_width n (suc width) some fits = omega arith

-- a number of at most 64 digits, but not 0, has a width that a word may have
pub IsWidth-least_width : (n : ℕ) → 1 ≤ n → n < 2 ^ 64 → IsWidth (least_width n)
IsWidth-least_width n some small = (zero_width n (least_width n) some (least_width_fits n), least_width_least n 64 small)

pub length-count_of : (inputs : List (List Bit)) → length (count_of inputs) ≡ least_width (greatest_count inputs)
unfolding count_of
length-count_of inputs = length-word_output inputs (least_width (greatest_count inputs)) (ones_of inputs)

pub count_undefined : (inputs : List (List Bit)) → are_defined inputs ≡ false → count_of inputs ≡ replicate (least_width (greatest_count inputs)) Error
unfolding count_of
count_undefined inputs h = word_output_undefined inputs (least_width (greatest_count inputs)) (ones_of inputs) h

pub count_defined : (inputs : List (List Bit)) → are_defined inputs ≡ true → count_of inputs ≡ word_of_number (least_width (greatest_count inputs)) (ones_of inputs)
unfolding count_of
count_defined inputs h = word_output_defined inputs (least_width (greatest_count inputs)) (ones_of inputs) h
