-- What the parts of the arithmetic library read and what they answer to bits that are no digits, after the
-- Logisim-evolution library reference, "Arithmetic library": a carry, a borrow, a third operand and an upper half
-- count as 0 where nothing drives them.
use Rattle.std.specs.Prelude.{◌≢◌, ℕ, Bool, ◌-◌, if◌then◌else◌, List, length, get_or, map, replicate}
use Rattle.std.specs.List.{All, list_all}
use Rattle.lg_value.specs.declared.bit.Bit.{Bit}
use Rattle.lg_value.specs.declared.bit.Bit.TheVariants.{Zero, One, Unknown, Error}
use Rattle.lg_value.specs.Bit.{is_defined_bit}
use Rattle.lg_value.specs.Word.{word_of_number}

-- whether each bit of a word is 0 or 1
unfoldable pub is_defined_word : List Bit → Bool
is_defined_word word = list_all is_defined_bit word

-- whether each bit of each operand is 0 or 1
unfoldable pub are_defined : List (List Bit) → Bool
are_defined operands = list_all is_defined_word operands

-- a bit of an operand that may float, as it counts: a floating one is 0
abbrev pub counted_bit : Bit → Bit
counted_bit Unknown = Zero
counted_bit bit = bit

-- an operand that may float, as it counts
abbrev pub counted_word : List Bit → List Bit
counted_word word = map counted_bit word

-- no bit of an operand that may float is an error
abbrev pub HasNoError : List Bit → Type 0
HasNoError word = All (λ bit. bit ≢ Error) word

-- an output that is a word: the low bits of a number where the operands are defined, and otherwise an error in
-- every bit
abbrev pub word_output : List (List Bit) → ℕ → ℕ → List Bit
word_output operands width n = if are_defined operands then word_of_number width n else replicate width Error

-- the bit that tells whether something is so
abbrev pub bit_of_test : Bool → Bit
bit_of_test test = if test then One else Zero

-- an output that is a bit: whether something is so where the operands are defined, and otherwise an error
abbrev pub bit_output : List (List Bit) → Bool → Bit
bit_output operands test = if are_defined operands then bit_of_test test else Error

-- the highest bit of a word
abbrev pub top_bit : List Bit → Bit
top_bit word = get_or word (length word - 1) Zero
