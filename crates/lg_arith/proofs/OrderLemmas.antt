-- The order of operands that are not defined, and of those that are.
use Rattle.std.proofs.Common.{◌≡◌, ℕ, ◌*◌, ◌^◌, ◌<◌, ◌≤◌, Bool, true, false, List, [], ◌∷◌, length, refl, arith}
use Rattle.std.specs.Prelude.{int_lt, ℤ, pos, ◌-ℤ◌, ◌≢◌}
use Rattle.std.proofs.lemmas.Int.{ints}
use mir.Val.{to_z, of_z}
use mir.Syntax.{w128}
use Rattle.lg_value.specs.declared.bit.Bit.{Bit}
use Rattle.lg_value.specs.declared.bit.Bit.TheVariants.{Zero, One, Unknown, Error}
use Rattle.lg_value.specs.Word.{number_of, same_word}
use Rattle.lg_value.specs.Bit.{digit_of}
use Rattle.lg_arith.specs.Operands.{are_defined, bit_of_test, top_bit}
use Rattle.lg_arith.specs.Order.{signed_number_of, compared_number, greater_of, equal_of, less_of}
use Rattle.lg_arith.proofs.OperandLemmas.{bit_output_undefined, bit_output_defined}

pub greater_undefined : (a b : List Bit) (signed : Bool) → are_defined (a ∷ b ∷ []) ≡ false → greater_of a b signed ≡ Error
unfolding greater_of
greater_undefined a b signed h = bit_output_undefined (a ∷ b ∷ []) (int_lt (compared_number signed b) (compared_number signed a)) h

pub greater_defined : (a b : List Bit) (signed : Bool) → are_defined (a ∷ b ∷ []) ≡ true → greater_of a b signed ≡ bit_of_test (int_lt (compared_number signed b) (compared_number signed a))
unfolding greater_of
greater_defined a b signed h = bit_output_defined (a ∷ b ∷ []) (int_lt (compared_number signed b) (compared_number signed a)) h

pub equal_undefined : (a b : List Bit) → are_defined (a ∷ b ∷ []) ≡ false → equal_of a b ≡ Error
unfolding equal_of
equal_undefined a b h = bit_output_undefined (a ∷ b ∷ []) (same_word a b) h

pub equal_defined : (a b : List Bit) → are_defined (a ∷ b ∷ []) ≡ true → equal_of a b ≡ bit_of_test (same_word a b)
unfolding equal_of
equal_defined a b h = bit_output_defined (a ∷ b ∷ []) (same_word a b) h

pub less_undefined : (a b : List Bit) (signed : Bool) → are_defined (a ∷ b ∷ []) ≡ false → less_of a b signed ≡ Error
unfolding less_of
less_undefined a b signed h = bit_output_undefined (a ∷ b ∷ []) (int_lt (compared_number signed a) (compared_number signed b)) h

pub less_defined : (a b : List Bit) (signed : Bool) → are_defined (a ∷ b ∷ []) ≡ true → less_of a b signed ≡ bit_of_test (int_lt (compared_number signed a) (compared_number signed b))
unfolding less_of
less_defined a b signed h = bit_output_defined (a ∷ b ∷ []) (int_lt (compared_number signed a) (compared_number signed b)) h

-- a word as a two's complement number, by its top bit
pub signed_low : (word : List Bit) → top_bit word ≡ One → signed_number_of word ≡ pos (number_of word) -ℤ pos (2 ^ length word)
unfolding signed_number_of
signed_low word h =
    let weight : digit_of (top_bit word) * 2 ^ length word ≡ 2 ^ length word = rw h (omega arith) in
    rw weight refl

digit_other : (b : Bit) → b ≢ One → digit_of b ≡ 0
digit_other Zero h = refl
digit_other One h = absurd (h refl)
digit_other Unknown h = refl
digit_other Error h = refl

pub signed_high : (word : List Bit) → top_bit word ≢ One → signed_number_of word ≡ pos (number_of word)
unfolding signed_number_of
signed_high word h =
    let weight : digit_of (top_bit word) * 2 ^ length word ≡ 0 = rw (digit_other (top_bit word) h) (omega arith) in
    rw weight (omega (arith, ints))

-- a difference of numbers that fit is the one that the code computes
pub difference_fits : (n p : ℕ) (z : ℤ) → n < 2 ^ 64 → p ≤ 2 ^ 64 → z ≡ pos n → to_z w128 (of_z w128 (to_z w128 (of_z w128 z) -ℤ to_z w128 p)) ≡ pos n -ℤ pos p
difference_fits n p z low high h = omega (arith, ints)

pub number_fits : (n : ℕ) (z : ℤ) → n < 2 ^ 64 → z ≡ pos n → to_z w128 (of_z w128 z) ≡ pos n
number_fits n z low h = omega (arith, ints)
