-- Values of which only some bits are cared for. Source: the Logisim-evolution user guide, Test Vector: a digit `x` is a
-- don't-care.
use Rattle.std.specs.Prelude.{◌≡◌, ℕ, List, length, slice_get, Some}
use Rattle.lg_value.specs.declared.bit.Bit.{Bit}
use Rattle.lg_value.specs.declared.bit.Bit.TheVariants.{Zero, One}
use Rattle.lg_value.specs.Word.{IsWidth, IsDefined, word_of_number}

-- the bits of a value, and a word with 1 at each place that is cared for
pub record CaredBits : Type 0 where
  pub bits : List Bit
  pub care : List Bit

-- a bit that is not cared for is 0
abbrev pub RestIsZero : CaredBits → Type 0
RestIsZero value = (place : ℕ) → slice_get value.care place ≡ Some Zero → slice_get value.bits place ≡ Some Zero

-- a value of a width: two defined words of that width, and 0 in each bit that is not cared for
pub record IsCared (width : ℕ) (value : CaredBits) : Type 0 where
  pub in_range : IsWidth width
  pub bits_width : length value.bits ≡ width
  pub care_width : length value.care ≡ width
  pub bits_defined : IsDefined value.bits
  pub care_defined : IsDefined value.care
  pub rest_is_zero : RestIsZero value

-- the value whose words are those of two numbers
abbrev pub cared_of : ℕ → ℕ → ℕ → CaredBits
cared_of width bits care = record { bits = word_of_number width bits; care = word_of_number width care }

-- two numbers and a width that keep a value
pub record IsKept (width bits care : ℕ) : Type 0 where
  pub in_range : IsWidth width
  pub rest_is_zero : RestIsZero (cared_of width bits care)

-- a word passes where each of its bits that is cared for is the one that is wanted
abbrev pub Passes : List Bit → CaredBits → Type 0
Passes got wanted = (place : ℕ) → slice_get wanted.care place ≡ Some One → slice_get got place ≡ slice_get wanted.bits place
