-- Quotients and remainders of operands that are not defined, and of those that are.
use Rattle.std.proofs.Common.{◌≡◌, ◌/◌, ◌%◌, true, false, List, length, replicate}
use Rattle.lg_value.specs.declared.bit.Bit.{Bit}
use Rattle.lg_value.specs.declared.bit.Bit.TheVariants.{Error}
use Rattle.lg_value.specs.Word.{word_of_number}
use Rattle.lg_arith.specs.Operands.{are_defined}
use Rattle.lg_arith.specs.Quotient.{quotient_operands, whole_dividend, divisor_of, quotient_of, remainder_of}
use Rattle.lg_arith.proofs.OperandLemmas.{length-word_output, word_output_undefined, word_output_defined}

pub length-quotient_of : (a b upper : List Bit) → length (quotient_of a b upper) ≡ length a
unfolding quotient_of
length-quotient_of a b upper = length-word_output (quotient_operands a b upper) (length a) (whole_dividend a upper / divisor_of b)

pub quotient_undefined : (a b upper : List Bit) → are_defined (quotient_operands a b upper) ≡ false → quotient_of a b upper ≡ replicate (length a) Error
unfolding quotient_of
quotient_undefined a b upper h = word_output_undefined (quotient_operands a b upper) (length a) (whole_dividend a upper / divisor_of b) h

pub quotient_defined : (a b upper : List Bit) → are_defined (quotient_operands a b upper) ≡ true → quotient_of a b upper ≡ word_of_number (length a) (whole_dividend a upper / divisor_of b)
unfolding quotient_of
quotient_defined a b upper h = word_output_defined (quotient_operands a b upper) (length a) (whole_dividend a upper / divisor_of b) h

pub length-remainder_of : (a b upper : List Bit) → length (remainder_of a b upper) ≡ length a
unfolding remainder_of
length-remainder_of a b upper = length-word_output (quotient_operands a b upper) (length a) (whole_dividend a upper % divisor_of b)

pub remainder_undefined : (a b upper : List Bit) → are_defined (quotient_operands a b upper) ≡ false → remainder_of a b upper ≡ replicate (length a) Error
unfolding remainder_of
remainder_undefined a b upper h = word_output_undefined (quotient_operands a b upper) (length a) (whole_dividend a upper % divisor_of b) h

pub remainder_defined : (a b upper : List Bit) → are_defined (quotient_operands a b upper) ≡ true → remainder_of a b upper ≡ word_of_number (length a) (whole_dividend a upper % divisor_of b)
unfolding remainder_of
remainder_defined a b upper h = word_output_defined (quotient_operands a b upper) (length a) (whole_dividend a upper % divisor_of b) h
