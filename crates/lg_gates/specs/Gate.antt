-- What gates answer, bit by bit, by what their attached inputs hold. Source: the library reference of
-- Logisim-evolution, Gates Library (AND, OR, NAND, NOR, XOR, XNOR, Odd Parity, Even Parity); its user
-- guide, Project options, for the option "Gate Output When Undefined".
use Rattle.std.specs.Prelude.{◌≡◌, ℕ, ◌%◌, ◌==◌, Bool, true, false, ◌&&◌, ◌||◌, if◌then◌else◌, List, Option, All, IfSome, is_none, map, replicate, length, slice_index_or, count_by}
use Rattle.std.specs.List.{list_all, list_any, filter_map, range_with_len}
use Rattle.lg_value.specs.declared.bit.Bit.{Bit}
use Rattle.lg_value.specs.declared.bit.Bit.TheVariants.{Zero, One, Unknown, Error}
use Rattle.lg_value.specs.Bit.{same_bit, is_defined_bit, not_bit}
use Rattle.lg_value.specs.Word.{IsDefined}
use Rattle.lg_gates.specs.declared.gates.GateKind.{GateKind}
use Rattle.lg_gates.specs.declared.gates.GateKind.TheVariants.{And, Or, Nand, Nor, XorOne, XorOdd, XnorOne, XnorOdd, OddParity, EvenParity}

-- whether some bit is 0
abbrev pub some_zero : List Bit → Bool
some_zero bits = list_any (same_bit Zero) bits

-- whether some bit is 1
abbrev pub some_one : List Bit → Bool
some_one bits = list_any (same_bit One) bits

-- whether no bit is undefined
abbrev pub all_defined : List Bit → Bool
all_defined bits = list_all is_defined_bit bits

-- the number of bits that are 1
abbrev pub ones : List Bit → ℕ
ones bits = count_by (same_bit One) bits

-- 1 for yes and 0 for no
abbrev pub bit_of : Bool → Bit
bit_of true = One
bit_of false = Zero

-- AND: one 0 decides; without one the answer is 1, if each bit is known to be 1
abbrev pub and_bit : List Bit → Bit
and_bit bits = if some_zero bits then Zero else (if all_defined bits then One else Error)

-- OR: one 1 decides; without one the answer is 0, if each bit is known to be 0
abbrev pub or_bit : List Bit → Bit
or_bit bits = if some_one bits then One else (if all_defined bits then Zero else Error)

-- exactly one: an undefined bit gives an error, else 1 where the number of bits that are 1 is one
abbrev pub exactly_one_bit : List Bit → Bit
exactly_one_bit bits = if all_defined bits then bit_of (ones bits == 1) else Error

-- odd: an undefined bit gives an error, else 1 where the number of bits that are 1 is odd
abbrev pub odd_bit : List Bit → Bit
odd_bit bits = if all_defined bits then bit_of (ones bits % 2 == 1) else Error

-- what a gate answers to one bit of each attached input
abbrev pub gate_bit : GateKind → List Bit → Bit
gate_bit And bits = and_bit bits
gate_bit Or bits = or_bit bits
gate_bit Nand bits = not_bit (and_bit bits)
gate_bit Nor bits = not_bit (or_bit bits)
gate_bit XorOne bits = exactly_one_bit bits
gate_bit XorOdd bits = odd_bit bits
gate_bit XnorOne bits = not_bit (exactly_one_bit bits)
gate_bit XnorOdd bits = not_bit (odd_bit bits)
gate_bit OddParity bits = odd_bit bits
gate_bit EvenParity bits = not_bit (odd_bit bits)

-- the words of the attached inputs; None is an input to which nothing is attached
abbrev pub attached : List (Option (List Bit)) → List (List Bit)
attached inputs = filter_map (λ input. input) inputs

-- the bits of some words at one place, unknown past a word's end
abbrev pub bits_at : ℕ → List (List Bit) → List Bit
bits_at place words = map (λ word. slice_index_or word place Unknown) words

-- whether a gate is in error whatever its inputs hold: none is attached, or under the "error" option
-- some are not
abbrev pub lacks_inputs : Bool → List (Option (List Bit)) → Bool
lacks_inputs strict inputs = list_all is_none inputs || (strict && list_any is_none inputs)

-- the word of a gate of this width: an error in each bit where it lacks inputs, else at each place what
-- the gate answers to its attached inputs' bits there
unfoldable pub gate_word : GateKind → ℕ → List (Option (List Bit)) → Bool → List Bit
gate_word kind width inputs strict =
    if lacks_inputs strict inputs then replicate width Error
    else map (λ place. gate_bit kind (bits_at place (attached inputs))) (range_with_len 0 width)

-- each attached input has this width
abbrev pub HaveWidth : ℕ → List (Option (List Bit)) → Type 0
HaveWidth width inputs = All (λ input. IfSome input (λ word. length word ≡ width)) inputs

-- each attached input is defined
abbrev pub CarryDefined : List (Option (List Bit)) → Type 0
CarryDefined inputs = All (λ input. IfSome input IsDefined) inputs
