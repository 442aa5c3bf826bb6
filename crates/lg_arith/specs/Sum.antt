-- Sums and differences, after the Logisim-evolution library reference, "Adder", "Subtractor" and "Negator".
use Rattle.std.specs.Prelude.{ℕ, ◌+◌, ◌-◌, ◌^◌, nat_lt, nat_le, List, [], ◌∷◌, length}
use Rattle.lg_value.specs.declared.bit.Bit.{Bit}
use Rattle.lg_value.specs.Bit.{digit_of}
use Rattle.lg_value.specs.Word.{number_of}
use Rattle.lg_arith.specs.Operands.{counted_bit, word_output, bit_output}

-- what an adder or a subtractor reads: two words and a carry or borrow, which may float
abbrev pub sum_operands : List Bit → List Bit → Bit → List (List Bit)
sum_operands a b carry = a ∷ b ∷ (counted_bit carry ∷ []) ∷ []

-- the whole sum of two words and a carry
abbrev pub whole_sum : List Bit → List Bit → Bit → ℕ
whole_sum a b carry = number_of a + number_of b + digit_of (counted_bit carry)

-- the sum modulo two to the width
unfoldable pub sum_of : List Bit → List Bit → Bit → List Bit
sum_of a b carry = word_output (sum_operands a b carry) (length a) (whole_sum a b carry)

-- the carry: whether the whole sum reaches two to the width
unfoldable pub carry_of : List Bit → List Bit → Bit → Bit
carry_of a b carry = bit_output (sum_operands a b carry) (nat_le (2 ^ length a) (whole_sum a b carry))

-- what is taken away: a word and a borrow
abbrev pub taken_away : List Bit → Bit → ℕ
taken_away b borrow = number_of b + digit_of (counted_bit borrow)

-- the difference modulo two to the width
unfoldable pub difference_of : List Bit → List Bit → Bit → List Bit
difference_of a b borrow = word_output (sum_operands a b borrow) (length a) (2 ^ length a + number_of a - taken_away b borrow)

-- the borrow: whether more is taken away than there is
unfoldable pub borrow_of : List Bit → List Bit → Bit → Bit
borrow_of a b borrow = bit_output (sum_operands a b borrow) (nat_lt (number_of a) (taken_away b borrow))

-- the negation modulo two to the width
unfoldable pub negation_of : List Bit → List Bit
negation_of a = word_output (a ∷ []) (length a) (2 ^ length a - number_of a)
