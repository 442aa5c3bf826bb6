-- The order of two words, after the Logisim-evolution library reference, "Comparator".
use Rattle.std.specs.Prelude.{Bool, ◌*◌, ◌^◌, if◌then◌else◌, ℤ, pos, ◌-ℤ◌, int_lt, List, [], ◌∷◌, length}
use Rattle.lg_value.specs.declared.bit.Bit.{Bit}
use Rattle.lg_value.specs.Bit.{digit_of}
use Rattle.lg_value.specs.Word.{number_of, same_word}
use Rattle.lg_arith.specs.Operands.{bit_output, top_bit}

-- a word as a two's complement number: its number, less two to the width where the top bit is 1
unfoldable pub signed_number_of : List Bit → ℤ
signed_number_of word = pos (number_of word) -ℤ pos (digit_of (top_bit word) * 2 ^ length word)

-- the number that a word is compared as
abbrev pub compared_number : Bool → List Bit → ℤ
compared_number signed word = if signed then signed_number_of word else pos (number_of word)

-- whether the first word is the greater one
unfoldable pub greater_of : List Bit → List Bit → Bool → Bit
greater_of a b signed = bit_output (a ∷ b ∷ []) (int_lt (compared_number signed b) (compared_number signed a))

-- whether the words are the same
unfoldable pub equal_of : List Bit → List Bit → Bit
equal_of a b = bit_output (a ∷ b ∷ []) (same_word a b)

-- whether the first word is the less one
unfoldable pub less_of : List Bit → List Bit → Bool → Bit
less_of a b signed = bit_output (a ∷ b ∷ []) (int_lt (compared_number signed a) (compared_number signed b))
