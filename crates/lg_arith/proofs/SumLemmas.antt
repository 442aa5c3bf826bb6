-- Sums, differences and negations of operands that are not defined, and of those that are.
use Rattle.std.proofs.Common.{◌≡◌, ◌+◌, ◌-◌, ◌^◌, leb, ltb, true, false, List, [], ◌∷◌, length, replicate}
use Rattle.lg_value.specs.declared.bit.Bit.{Bit}
use Rattle.lg_value.specs.declared.bit.Bit.TheVariants.{Error}
use Rattle.lg_value.specs.Word.{number_of, word_of_number}
use Rattle.lg_arith.specs.Operands.{are_defined, bit_of_test}
use Rattle.lg_arith.specs.Sum.{sum_operands, whole_sum, taken_away, sum_of, carry_of, difference_of, borrow_of, negation_of}
use Rattle.lg_arith.proofs.OperandLemmas.{length-word_output, word_output_undefined, word_output_defined, bit_output_undefined, bit_output_defined}

pub length-sum_of : (a b : List Bit) (carry : Bit) → length (sum_of a b carry) ≡ length a
unfolding sum_of
length-sum_of a b carry = length-word_output (sum_operands a b carry) (length a) (whole_sum a b carry)

pub sum_undefined : (a b : List Bit) (carry : Bit) → are_defined (sum_operands a b carry) ≡ false → sum_of a b carry ≡ replicate (length a) Error
unfolding sum_of
sum_undefined a b carry h = word_output_undefined (sum_operands a b carry) (length a) (whole_sum a b carry) h

pub sum_defined : (a b : List Bit) (carry : Bit) → are_defined (sum_operands a b carry) ≡ true → sum_of a b carry ≡ word_of_number (length a) (whole_sum a b carry)
unfolding sum_of
sum_defined a b carry h = word_output_defined (sum_operands a b carry) (length a) (whole_sum a b carry) h

pub carry_undefined : (a b : List Bit) (carry : Bit) → are_defined (sum_operands a b carry) ≡ false → carry_of a b carry ≡ Error
unfolding carry_of
carry_undefined a b carry h = bit_output_undefined (sum_operands a b carry) (leb (2 ^ length a) (whole_sum a b carry)) h

pub carry_defined : (a b : List Bit) (carry : Bit) → are_defined (sum_operands a b carry) ≡ true → carry_of a b carry ≡ bit_of_test (leb (2 ^ length a) (whole_sum a b carry))
unfolding carry_of
carry_defined a b carry h = bit_output_defined (sum_operands a b carry) (leb (2 ^ length a) (whole_sum a b carry)) h

pub length-difference_of : (a b : List Bit) (borrow : Bit) → length (difference_of a b borrow) ≡ length a
unfolding difference_of
length-difference_of a b borrow = length-word_output (sum_operands a b borrow) (length a) (2 ^ length a + number_of a - taken_away b borrow)

pub difference_undefined : (a b : List Bit) (borrow : Bit) → are_defined (sum_operands a b borrow) ≡ false → difference_of a b borrow ≡ replicate (length a) Error
unfolding difference_of
difference_undefined a b borrow h = word_output_undefined (sum_operands a b borrow) (length a) (2 ^ length a + number_of a - taken_away b borrow) h

pub difference_defined : (a b : List Bit) (borrow : Bit) → are_defined (sum_operands a b borrow) ≡ true → difference_of a b borrow ≡ word_of_number (length a) (2 ^ length a + number_of a - taken_away b borrow)
unfolding difference_of
difference_defined a b borrow h = word_output_defined (sum_operands a b borrow) (length a) (2 ^ length a + number_of a - taken_away b borrow) h

pub borrow_undefined : (a b : List Bit) (borrow : Bit) → are_defined (sum_operands a b borrow) ≡ false → borrow_of a b borrow ≡ Error
unfolding borrow_of
borrow_undefined a b borrow h = bit_output_undefined (sum_operands a b borrow) (ltb (number_of a) (taken_away b borrow)) h

pub borrow_defined : (a b : List Bit) (borrow : Bit) → are_defined (sum_operands a b borrow) ≡ true → borrow_of a b borrow ≡ bit_of_test (ltb (number_of a) (taken_away b borrow))
unfolding borrow_of
borrow_defined a b borrow h = bit_output_defined (sum_operands a b borrow) (ltb (number_of a) (taken_away b borrow)) h

pub length-negation_of : (a : List Bit) → length (negation_of a) ≡ length a
unfolding negation_of
length-negation_of a = length-word_output (a ∷ []) (length a) (2 ^ length a - number_of a)

pub negation_undefined : (a : List Bit) → are_defined (a ∷ []) ≡ false → negation_of a ≡ replicate (length a) Error
unfolding negation_of
negation_undefined a h = word_output_undefined (a ∷ []) (length a) (2 ^ length a - number_of a) h

pub negation_defined : (a : List Bit) → are_defined (a ∷ []) ≡ true → negation_of a ≡ word_of_number (length a) (2 ^ length a - number_of a)
unfolding negation_of
negation_defined a h = word_output_defined (a ∷ []) (length a) (2 ^ length a - number_of a) h
