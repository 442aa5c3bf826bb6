-- What a priority encoder answers. Source: the library reference of Logisim-evolution, Plexers Library
-- (Priority Encoder).
use Rattle.std.specs.Prelude.{◌≡◌, ◌≢◌, ℕ, ◌+◌, ◌<◌, Bool, not, ◌||◌, if◌then◌else◌, List, [], ◌∷◌, Some, replicate, slice_get}
use Rattle.lg_value.specs.declared.bit.Bit.{Bit}
use Rattle.lg_value.specs.declared.bit.Bit.TheVariants.{Zero, One, Error}
use Rattle.lg_value.specs.Bit.{same_bit}
use Rattle.lg_value.specs.Word.{word_of_number}
use Rattle.lg_gates.specs.Gate.{some_one, all_defined}

-- the greatest place that holds a 1, and 0 where none does
abbrev pub greatest_one : List Bit → ℕ
greatest_one [] = 0
greatest_one (bit ∷ higher) = if some_one higher then greatest_one higher + 1 else 0

-- a place holds a 1, and no greater place does
pub record IsGreatestOne (bits : List Bit) (place : ℕ) : Type 0 where
  pub holds : slice_get bits place ≡ Some One
  pub above : (k : ℕ) → place < k → slice_get bits k ≢ Some One

-- whether an encoder is in error: an input is undefined, or the enable is an error
abbrev pub encodes_error : List Bit → Bit → Bool
encodes_error inputs enable = not (all_defined inputs) || same_bit Error enable

-- the address, the group bit and the enable output of a priority encoder with an address of this width:
-- in error everywhere; not enabled: off, 0, 0; some input is 1: the greatest such one, 1, 0; else off, 0, 1
unfoldable pub priority_of : List Bit → Bit → ℕ → Bit → List Bit × Bit × Bit
priority_of inputs enable width off =
    if encodes_error inputs enable then (replicate width Error, Error, Error)
    else (if same_bit Zero enable then (replicate width off, Zero, Zero)
    else (if some_one inputs then (word_of_number width (greatest_one inputs), One, Zero)
    else (replicate width off, Zero, One)))
