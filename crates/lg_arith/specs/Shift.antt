-- Shifts and rolls of a word, after the Logisim-evolution library reference, "Shifter". Left is toward the higher
-- places.
use Rattle.std.specs.Prelude.{ℕ, ◌-◌, ◌%◌, if◌then◌else◌, List, [], ◌∷◌, ◌++◌, length, take, drop, replicate}
use Rattle.lg_value.specs.declared.bit.Bit.{Bit}
use Rattle.lg_value.specs.declared.bit.Bit.TheVariants.{Zero, Error}
use Rattle.lg_value.specs.Word.{number_of}
use Rattle.lg_arith.specs.declared.shifter.ShiftKind.{ShiftKind}
use Rattle.lg_arith.specs.declared.shifter.ShiftKind.TheVariants.{Left, Right, Arith, RollLeft, RollRight}
use Rattle.lg_arith.specs.Operands.{are_defined, top_bit}

-- the bits moved up by a distance, with zeros below
abbrev pub moved_left : List Bit → ℕ → List Bit
moved_left a distance = take (length a) (replicate distance Zero ++ a)

-- the bits moved down by a distance, with one bit in every place above
abbrev pub moved_right : Bit → List Bit → ℕ → List Bit
moved_right above a distance = take (length a) (drop distance a ++ replicate (length a) above)

-- the bits from a place on, and then those below it
abbrev pub turned : List Bit → ℕ → List Bit
turned a place = drop place a ++ take place a

-- the bits as a kind of shift moves them
abbrev pub moved : ShiftKind → List Bit → ℕ → List Bit
moved Left a distance = moved_left a distance
moved Right a distance = moved_right Zero a distance
moved Arith a distance = moved_right (top_bit a) a distance
moved RollLeft a distance = turned a (length a - distance % length a)
moved RollRight a distance = turned a (distance % length a)

-- the shifted word where the operands are defined, and otherwise an error in every bit
unfoldable pub shift_of : ShiftKind → List Bit → List Bit → List Bit
shift_of kind a distance =
    if are_defined (a ∷ distance ∷ []) then moved kind a (number_of distance) else replicate (length a) Error
