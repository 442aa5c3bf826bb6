-- Subtraction undoes addition, and addition subtraction.
use Rattle.std.proofs.Common.{◌≡◌, ℕ, zero, suc, ◌+◌, ◌-◌, ◌*◌, ◌%◌, ◌^◌, ◌<◌, ◌≤◌, List, length, replicate, ◌⊎◌, inl, sym, refl, ap, ◌∙◌, arith}
use Rattle.std.specs.Prelude.{◌≢◌}
use Rattle.std.proofs.Math.Nat.{mod-eq_of_lt, add-mul-mod_self_left}
use Rattle.std.proofs.lemmas.List.{length-replicate}
use Rattle.std.proofs.lemmas.List.Elements.{All-replicate}
use Rattle.lg_value.specs.declared.bit.Bit.{Bit}
use Rattle.lg_value.specs.declared.bit.Bit.TheVariants.{Zero, One, Error}
use Rattle.lg_value.specs.Bit.{digit_of}
use Rattle.lg_value.specs.Word.{IsDefined, number_of, word_of_number}
use Rattle.lg_value.proofs.WordLemmas.{number_of-lt, number_of-word_of_number, word_of_number-number_of}
use Rattle.lg_arith.specs.Operands.{counted_bit}
use Rattle.lg_arith.specs.Sum.{whole_sum, taken_away, sum_of, carry_of, difference_of, borrow_of, negation_of}
use Rattle.lg_arith.proofs.DefinedLemmas.{defined_summands, defined_one, sum_in_out, difference_in_out, negation_in_out}
use Rattle.lg_arith.proofs.OperandLemmas.{word_of_number-rest}
use Rattle.lg_arith.proofs.NumberLemmas.{number_of_zeros}
use Rattle.lg_arith.proofs.SumLemmas.{sum_defined, difference_defined, negation_defined, length-sum_of, length-difference_of}
use Rattle.lg_arith.proofs.WholeLemmas.{sum_whole, difference_whole, digit_le, past_once}

-- a number that differs from a word's by two to the width, some times over, gives the word back
word_again : (a : List Bit) (n times : ℕ) → IsDefined a → n ≡ number_of a + 2 ^ length a * times → word_of_number (length a) n ≡ a
word_again a n times h split =
    let rest : n % 2 ^ length a ≡ number_of a =
    ap (λ m. m % 2 ^ length a) split ∙ add-mul-mod_self_left (number_of a) (2 ^ length a) times ∙ mod-eq_of_lt (number_of-lt a) in
    sym (word_of_number-rest (length a) n) ∙ ap (word_of_number (length a)) rest ∙ word_of_number-number_of a h

-- one time over, or none
undone : (p a s t digit : ℕ) → s + p * digit ≡ a + t → digit ≤ 1 → t ≤ p → p + s - t ≡ a + p * (1 - digit)
undone p a s t zero whole small low = omega arith
undone p a s t (suc zero) whole small low = omega arith
undone p a s t (suc (suc digit)) whole small low = absurd (omega (arith, small))

pub difference_undone : (a b : List Bit) (carry : Bit) → length b ≡ length a → IsDefined a → IsDefined b → carry ≢ Error → difference_of (sum_of a b carry) b carry ≡ a
difference_undone a b carry same h k l =
    let sum_is = (sum_in_out a b carry h k l).0 in
    let width = length-sum_of a b carry in
    let whole = sum_whole a b carry same h k l in
    let b_fits = rw same at (number_of-lt b) in
    let number : 2 ^ length a + number_of (sum_of a b carry) - taken_away b carry ≡ number_of a + 2 ^ length a * (1 - digit_of (carry_of a b carry)) =
    undone (2 ^ length a) (number_of a) (number_of (sum_of a b carry)) (taken_away b carry) (digit_of (carry_of a b carry))
    (omega arith) (digit_le (carry_of a b carry)) (omega (arith, digit_le (counted_bit carry))) in
    rw (difference_defined (sum_of a b carry) b carry (defined_summands (sum_of a b carry) b carry sum_is k l), width)
    (word_again a (2 ^ length a + number_of (sum_of a b carry) - taken_away b carry) (1 - digit_of (carry_of a b carry)) h number)

pub sum_undone : (a b : List Bit) (borrow : Bit) → length b ≡ length a → IsDefined a → IsDefined b → borrow ≢ Error → sum_of (difference_of a b borrow) b borrow ≡ a
sum_undone a b borrow same h k l =
    let difference_is = (difference_in_out a b borrow h k l).0 in
    let width = length-difference_of a b borrow in
    let whole = difference_whole a b borrow same h k l in
    let number : whole_sum (difference_of a b borrow) b borrow ≡ number_of a + 2 ^ length a * digit_of (borrow_of a b borrow) = omega arith in
    rw (sum_defined (difference_of a b borrow) b borrow (defined_summands (difference_of a b borrow) b borrow difference_is k l), width)
    (word_again a (whole_sum (difference_of a b borrow) b borrow) (digit_of (borrow_of a b borrow)) h number)

-- a number and what is left to two to the width make 0 or one time over
negated : (n p : ℕ) → n < p → (times : ℕ) × (n + (p - n) % p ≡ p * times)
negated zero p small = (0, rw (past_once (p - 0) p (omega arith) (omega arith)) (omega arith))
negated (suc n) p small =
    let inside : p - suc n < p = omega arith in
    (1, rw (mod-eq_of_lt inside) (omega (arith, small)))

-- a word and its negation sum to 0
pub sum-negation_of : (a : List Bit) → IsDefined a → sum_of a (negation_of a) Zero ≡ replicate (length a) Zero
sum-negation_of a h =
    let zeros : List Bit = replicate (length a) Zero in
    let width : length zeros ≡ length a = length-replicate (length a) Zero in
    let zeros_are : IsDefined zeros = All-replicate (λ bit. (bit ≡ Zero) ⊎ (bit ≡ One)) (length a) Zero (inl refl) in
    let defined = defined_summands a (negation_of a) Zero h (negation_in_out a h) (λ e. cc) in
    let negative : number_of (negation_of a) ≡ (2 ^ length a - number_of a) % 2 ^ length a =
    rw (negation_defined a (defined_one a h)) (number_of-word_of_number (length a) (2 ^ length a - number_of a)) in
    let over = negated (number_of a) (2 ^ length a) (number_of-lt a) in
    let none = number_of_zeros (length a) in
    let number : whole_sum a (negation_of a) Zero ≡ number_of zeros + 2 ^ length a * over.0 = omega (arith, over.1) in
    let again = word_again zeros (whole_sum a (negation_of a) Zero) over.0 zeros_are (rw width number) in
    sum_defined a (negation_of a) Zero defined ∙ rw width at again
