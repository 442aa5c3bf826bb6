-- Arithmetic: the ports of its parts and what they answer. Source: the library reference of Logisim-evolution, Arithmetic
-- Library; order and ranges are this project's.
use Rattle.std.specs.Prelude.{ℕ, ◌*◌, Bool, true, false, List, [], ◌∷◌, replicate}
use Rattle.lg_value.specs.Word.{IsWidth}
use Rattle.lg_arith.specs.Count.{least_width, select_width, count_of}
use Rattle.lg_arith.specs.Order.{greater_of, equal_of, less_of}
use Rattle.lg_arith.specs.Product.{low_product_of, high_product_of}
use Rattle.lg_arith.specs.Quotient.{quotient_of, remainder_of}
use Rattle.lg_arith.specs.Shift.{shift_of}
use Rattle.lg_arith.specs.Sum.{sum_of, carry_of, difference_of, borrow_of, negation_of}
use Rattle.lg_memory.specs.Inputs.{Word, word_at, bit_at}
use Rattle.lg_shapes.specs.declared.arithmetic.Mode.{Mode}
use Rattle.lg_shapes.specs.declared.arithmetic.Mode.TheVariants.{Unsigned, TwosComplement}
use Rattle.lg_shapes.specs.declared.arithmetic.Arithmetic.{Arithmetic}
use Rattle.lg_shapes.specs.declared.arithmetic.Arithmetic.TheVariants.{Adder, Subtractor, Multiplier, Divider, Negator, Comparator, Shifter, BitAdder}

-- widths and numbers of inputs in their ranges
abbrev pub IsArithmetic : Arithmetic → Type 0
IsArithmetic (BitAdder width inputs) = IsWidth width × IsWidth inputs
IsArithmetic (Adder width) = IsWidth width
IsArithmetic (Subtractor width) = IsWidth width
IsArithmetic (Multiplier width) = IsWidth width
IsArithmetic (Divider width) = IsWidth width
IsArithmetic (Negator width) = IsWidth width
IsArithmetic (Comparator width mode) = IsWidth width
IsArithmetic (Shifter width shift) = IsWidth width

-- the widths of the inputs
abbrev pub arithmetic_inputs : Arithmetic → List ℕ
arithmetic_inputs (Adder width) = width ∷ width ∷ 1 ∷ []
arithmetic_inputs (Subtractor width) = width ∷ width ∷ 1 ∷ []
arithmetic_inputs (Multiplier width) = width ∷ width ∷ width ∷ []
arithmetic_inputs (Divider width) = width ∷ width ∷ width ∷ []
arithmetic_inputs (Negator width) = width ∷ []
arithmetic_inputs (Comparator width mode) = width ∷ width ∷ []
arithmetic_inputs (Shifter width shift) = width ∷ select_width 1 width ∷ []
arithmetic_inputs (BitAdder width inputs) = replicate inputs width

-- the widths of the outputs
abbrev pub arithmetic_outputs : Arithmetic → List ℕ
arithmetic_outputs (Adder width) = width ∷ 1 ∷ []
arithmetic_outputs (Subtractor width) = width ∷ 1 ∷ []
arithmetic_outputs (Multiplier width) = width ∷ width ∷ []
arithmetic_outputs (Divider width) = width ∷ width ∷ []
arithmetic_outputs (Negator width) = width ∷ []
arithmetic_outputs (Comparator width mode) = 1 ∷ 1 ∷ 1 ∷ []
arithmetic_outputs (Shifter width shift) = width ∷ []
arithmetic_outputs (BitAdder width inputs) = least_width (inputs * width) ∷ []

-- whether a comparator reads two's complement numbers
abbrev pub is_signed : Mode → Bool
is_signed Unsigned = false
is_signed TwosComplement = true

-- the words at the outputs of a comparator
abbrev pub compared : Mode → Word → Word → List Word
compared mode a b = (greater_of a b (is_signed mode) ∷ []) ∷ (equal_of a b ∷ []) ∷ (less_of a b (is_signed mode) ∷ []) ∷ []

-- the words at the outputs
abbrev pub arithmetic_words : Arithmetic → List Word → List Word
arithmetic_words (Adder width) inputs =
    sum_of (word_at inputs 0) (word_at inputs 1) (bit_at inputs 2) ∷ (carry_of (word_at inputs 0) (word_at inputs 1) (bit_at inputs 2) ∷ []) ∷ []
arithmetic_words (Subtractor width) inputs =
    difference_of (word_at inputs 0) (word_at inputs 1) (bit_at inputs 2) ∷ (borrow_of (word_at inputs 0) (word_at inputs 1) (bit_at inputs 2) ∷ []) ∷ []
arithmetic_words (Multiplier width) inputs =
    low_product_of (word_at inputs 0) (word_at inputs 1) (word_at inputs 2) ∷ high_product_of (word_at inputs 0) (word_at inputs 1) (word_at inputs 2) ∷ []
arithmetic_words (Divider width) inputs =
    quotient_of (word_at inputs 0) (word_at inputs 1) (word_at inputs 2) ∷ remainder_of (word_at inputs 0) (word_at inputs 1) (word_at inputs 2) ∷ []
arithmetic_words (Negator width) inputs = negation_of (word_at inputs 0) ∷ []
arithmetic_words (Comparator width mode) inputs = compared mode (word_at inputs 0) (word_at inputs 1)
arithmetic_words (Shifter width shift) inputs = shift_of shift (word_at inputs 0) (word_at inputs 1) ∷ []
arithmetic_words (BitAdder width count) inputs = count_of inputs ∷ []
