-- The count of ones, after the Logisim-evolution library reference, "Bit Adder".
use Rattle.std.specs.Prelude.{ℕ, ◌-◌, ◌/◌, ◌^◌, max, nat_lt, List, length, count_by, sum_by}
use Rattle.std.specs.List.{position_or_len, range_with_len}
use Rattle.lg_value.specs.declared.bit.Bit.{Bit}
use Rattle.lg_value.specs.declared.bit.Bit.TheVariants.{One}
use Rattle.lg_value.specs.Bit.{same_bit}
use Rattle.lg_arith.specs.Operands.{word_output}

-- how many bits of a word are 1
abbrev pub ones_in : List Bit → ℕ
ones_in word = count_by (same_bit One) word

-- how many bits of all inputs are 1
abbrev pub ones_of : List (List Bit) → ℕ
ones_of inputs = sum_by ones_in inputs

-- the greatest count that the inputs can have: each of their bits is 1
abbrev pub greatest_count : List (List Bit) → ℕ
greatest_count inputs = sum_by length inputs

-- the least width that a number fits: the first one at which two to the width passes the number
unfoldable pub least_width : ℕ → ℕ
least_width n = position_or_len (λ width. nat_lt n (2 ^ width)) (range_with_len 0 n)

-- how many bits number the groups of so many bits in a word, at least 1
abbrev pub select_width : ℕ → ℕ → ℕ
select_width group width = max (least_width ((width - 1) / max group 1)) 1

-- the count of ones, in the least width that every count fits
unfoldable pub count_of : List (List Bit) → List Bit
count_of inputs = word_output inputs (least_width (greatest_count inputs)) (ones_of inputs)
