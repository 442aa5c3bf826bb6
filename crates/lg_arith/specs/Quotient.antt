-- Unsigned division of a dividend of two words, after the Logisim-evolution library reference, "Divider".
use Rattle.std.specs.Prelude.{ℕ, ◌+◌, ◌*◌, ◌/◌, ◌%◌, ◌^◌, max, List, [], ◌∷◌, length}
use Rattle.lg_value.specs.declared.bit.Bit.{Bit}
use Rattle.lg_value.specs.Word.{number_of}
use Rattle.lg_arith.specs.Operands.{counted_word, word_output}

-- what a divider reads: the dividend's lower half, the divisor, and the dividend's upper half, which may float
abbrev pub quotient_operands : List Bit → List Bit → List Bit → List (List Bit)
quotient_operands a b upper = a ∷ b ∷ counted_word upper ∷ []

-- the whole dividend: the upper half above the lower one
abbrev pub whole_dividend : List Bit → List Bit → ℕ
whole_dividend a upper = number_of (counted_word upper) * 2 ^ length a + number_of a

-- the number that is divided by: the divisor, or 1 where that is 0
abbrev pub divisor_of : List Bit → ℕ
divisor_of b = max (number_of b) 1

-- the quotient modulo two to the width
unfoldable pub quotient_of : List Bit → List Bit → List Bit → List Bit
quotient_of a b upper = word_output (quotient_operands a b upper) (length a) (whole_dividend a upper / divisor_of b)

-- the remainder
unfoldable pub remainder_of : List Bit → List Bit → List Bit → List Bit
remainder_of a b upper = word_output (quotient_operands a b upper) (length a) (whole_dividend a upper % divisor_of b)
