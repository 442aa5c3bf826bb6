-- Unsigned products, after the Logisim-evolution library reference, "Multiplier".
use Rattle.std.specs.Prelude.{ℕ, ◌+◌, ◌*◌, ◌/◌, ◌^◌, List, [], ◌∷◌, length}
use Rattle.lg_value.specs.declared.bit.Bit.{Bit}
use Rattle.lg_value.specs.Word.{number_of}
use Rattle.lg_arith.specs.Operands.{counted_word, word_output}

-- what a multiplier reads: two factors, and a third operand that is added, which may float
abbrev pub product_operands : List Bit → List Bit → List Bit → List (List Bit)
product_operands a b c = a ∷ b ∷ counted_word c ∷ []

-- the whole product of the factors, with the third operand added
abbrev pub whole_product : List Bit → List Bit → List Bit → ℕ
whole_product a b c = number_of a * number_of b + number_of (counted_word c)

-- the low half of the product
unfoldable pub low_product_of : List Bit → List Bit → List Bit → List Bit
low_product_of a b c = word_output (product_operands a b c) (length a) (whole_product a b c)

-- the high half of the product
unfoldable pub high_product_of : List Bit → List Bit → List Bit → List Bit
high_product_of a b c = word_output (product_operands a b c) (length a) (whole_product a b c / 2 ^ length a)
