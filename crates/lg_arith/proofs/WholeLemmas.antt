-- The two outputs of a part make up its whole result.
use Rattle.std.proofs.Common.{◌≡◌, ℕ, ◌+◌, ◌-◌, ◌*◌, ◌/◌, ◌%◌, ◌^◌, ◌<◌, ◌≤◌, leb, ltb, List, length, ap, ◌∙◌, arith, inl, inr}
use Rattle.std.specs.Prelude.{◌≢◌}
use Rattle.std.proofs.Math.Nat.{mod-eq_of_lt, add-mul-mod_self_left, mul_comm}
use Rattle.std.proofs.lemmas.Bool.{cases_lt, lt-ltb, le-ltb}
use Rattle.std.proofs.lemmas.Bool.Decides.{leb_tells}
use Rattle.std.proofs.lemmas.Nat.{pow_pos, mul-add-lt, mul-le, div-add-mod', div_below, mod_below}
use Rattle.std.proofs.lemmas.List.{length-map}
use Rattle.lg_value.specs.declared.bit.Bit.{Bit}
use Rattle.lg_value.specs.declared.bit.Bit.TheVariants.{Zero, One, Unknown, Error}
use Rattle.lg_value.specs.Bit.{digit_of}
use Rattle.lg_value.specs.Word.{IsDefined, number_of}
use Rattle.lg_value.proofs.WordLemmas.{number_of-lt, number_of-word_of_number}
use Rattle.lg_arith.specs.Operands.{HasNoError, counted_bit, counted_word, bit_of_test}
use Rattle.lg_arith.specs.Product.{whole_product, low_product_of, high_product_of}
use Rattle.lg_arith.specs.Quotient.{whole_dividend, divisor_of, quotient_of, remainder_of}
use Rattle.lg_arith.specs.Sum.{whole_sum, taken_away, sum_of, carry_of, difference_of, borrow_of}
use Rattle.lg_arith.proofs.DefinedLemmas.{defined_summands, defined_three}
use Rattle.lg_arith.proofs.ProductLemmas.{low_product_defined, high_product_defined}
use Rattle.lg_arith.proofs.QuotientLemmas.{quotient_defined, remainder_defined}
use Rattle.lg_arith.proofs.SumLemmas.{sum_defined, carry_defined, difference_defined, borrow_defined}

-- a number of one digit more than the width, by its rest and its top digit
pub past_once : (n p : ℕ) → p ≤ n → n < 2 * p → n % p ≡ n - p
past_once n p past below =
    let split : n ≡ (n - p) + p * 1 = omega arith in
    let small : n - p < p = omega arith in
    ap (λ m. m % p) split ∙ add-mul-mod_self_left (n - p) p 1 ∙ mod-eq_of_lt small

with_top : (n p : ℕ) → n < 2 * p → n % p + p * digit_of (bit_of_test (leb p n)) ≡ n
with_top n p below = elim (leb_tells p n) [
  | inl past ↦ rw (past.0, past_once n p past.1 below) (omega arith)
  | inr inside ↦ rw (inside.0, mod-eq_of_lt inside.1) (omega arith)
]

with_borrow : (n t p : ℕ) → n < p → t ≤ p → (p + n - t) % p + t ≡ n + p * digit_of (bit_of_test (ltb n t))
with_borrow n t p low small = elim (cases_lt n t) [
  | inl less ↦
      let inside : p + n - t < p = omega arith in
      rw (lt-ltb n t less, mod-eq_of_lt inside) (omega arith)
  | inr enough ↦
      rw (le-ltb n t enough, past_once (p + n - t) p (omega arith) (omega arith)) (omega arith)
]

pub digit_le : (b : Bit) → digit_of b ≤ 1
digit_le Zero = omega arith
digit_le One = omega arith
digit_le Unknown = omega arith
digit_le Error = omega arith

pub sum_whole : (a b : List Bit) (carry : Bit) → length b ≡ length a → IsDefined a → IsDefined b → carry ≢ Error → number_of (sum_of a b carry) + 2 ^ length a * digit_of (carry_of a b carry) ≡ whole_sum a b carry
sum_whole a b carry same h k l =
    let defined = defined_summands a b carry h k l in
    let b_fits = rw same at (number_of-lt b) in
    rw (sum_defined a b carry defined, carry_defined a b carry defined, number_of-word_of_number (length a) (whole_sum a b carry))
    (with_top (whole_sum a b carry) (2 ^ length a) (omega (arith, number_of-lt a, digit_le (counted_bit carry))))

pub difference_whole : (a b : List Bit) (borrow : Bit) → length b ≡ length a → IsDefined a → IsDefined b → borrow ≢ Error → number_of (difference_of a b borrow) + taken_away b borrow ≡ number_of a + 2 ^ length a * digit_of (borrow_of a b borrow)
difference_whole a b borrow same h k l =
    let defined = defined_summands a b borrow h k l in
    let b_fits = rw same at (number_of-lt b) in
    rw (difference_defined a b borrow defined, borrow_defined a b borrow defined, number_of-word_of_number (length a) (2 ^ length a + number_of a - taken_away b borrow))
    (with_borrow (number_of a) (taken_away b borrow) (2 ^ length a) (number_of-lt a) (omega (arith, digit_le (counted_bit borrow))))

counted_fits : (a c : List Bit) → length c ≡ length a → number_of (counted_word c) < 2 ^ length a
counted_fits a c same = rw (length-map c counted_bit, same) at (number_of-lt (counted_word c))

product_small : (a b c p : ℕ) → a < p → b < p → c < p → a * b + c < p * p
product_small a b c p h k l = omega (arith, mul-add-lt a p c p h l, mul-le a b a p (omega arith) (omega arith))

pub product_whole : (a b c : List Bit) → length b ≡ length a → length c ≡ length a → IsDefined a → IsDefined b → HasNoError c → number_of (low_product_of a b c) + 2 ^ length a * number_of (high_product_of a b c) ≡ whole_product a b c
product_whole a b c same_b same_c h k l =
    let defined = defined_three a b c h k l in
    let p = 2 ^ length a in
    let whole = whole_product a b c in
    let small : whole < p * p = product_small (number_of a) (number_of b) (number_of (counted_word c)) p (number_of-lt a) (rw same_b at (number_of-lt b)) (counted_fits a c same_c) in
    let high : whole / p < p = div_below whole p p (pow_pos (length a)) small in
    rw (low_product_defined a b c defined, high_product_defined a b c defined, number_of-word_of_number (length a) whole, number_of-word_of_number (length a) (whole / p), mod-eq_of_lt high)
    (omega (arith, div-add-mod' whole p, mul_comm p (whole / p)))

divisor_pos : (b : List Bit) → 0 < divisor_of b
divisor_pos b = omega arith

divisor_fits : (a b : List Bit) → length b ≡ length a → divisor_of b ≤ 2 ^ length a
divisor_fits a b same =
    let b_fits = rw same at (number_of-lt b) in
    omega (arith, pow_pos (length a))

pub remainder_whole : (a b upper : List Bit) → length b ≡ length a → IsDefined a → IsDefined b → HasNoError upper → number_of (remainder_of a b upper) ≡ whole_dividend a upper % divisor_of b
remainder_whole a b upper same h k l =
    let defined = defined_three a b upper h k l in
    let left : whole_dividend a upper % divisor_of b < divisor_of b = mod_below (whole_dividend a upper) (divisor_of b) (divisor_pos b) in
    let small : whole_dividend a upper % divisor_of b < 2 ^ length a = omega (arith, divisor_fits a b same) in
    rw (remainder_defined a b upper defined, number_of-word_of_number (length a) (whole_dividend a upper % divisor_of b))
    (mod-eq_of_lt small)

pub remainder_less : (a b upper : List Bit) → length b ≡ length a → IsDefined a → IsDefined b → HasNoError upper → number_of (remainder_of a b upper) < divisor_of b
remainder_less a b upper same h k l =
    rw (remainder_whole a b upper same h k l) (mod_below (whole_dividend a upper) (divisor_of b) (divisor_pos b))

pub quotient_whole : (a b upper : List Bit) → length b ≡ length a → IsDefined a → IsDefined b → HasNoError upper → whole_dividend a upper < 2 ^ length a * divisor_of b → number_of (quotient_of a b upper) * divisor_of b + number_of (remainder_of a b upper) ≡ whole_dividend a upper
quotient_whole a b upper same h k l fits =
    let defined = defined_three a b upper h k l in
    let whole = whole_dividend a upper in
    let small : whole / divisor_of b < 2 ^ length a = div_below whole (divisor_of b) (2 ^ length a) (divisor_pos b) fits in
    rw (remainder_whole a b upper same h k l, quotient_defined a b upper defined, number_of-word_of_number (length a) (whole / divisor_of b), mod-eq_of_lt small)
    (div-add-mod' whole (divisor_of b))
