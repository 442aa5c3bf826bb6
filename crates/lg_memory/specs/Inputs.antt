-- The words at a part's inputs. Source: the library reference of Logisim-evolution, Memory Library, over
-- four-valued bits; the inputs stand in the order of the kind's ports.
use Rattle.std.specs.Prelude.{ℕ, List, [], Option, None, Some, slice_index_or, if◌then◌else◌}
use Rattle.std.specs.List.{list_all}
use Rattle.lg_value.specs.declared.bit.Bit.{Bit}
use Rattle.lg_value.specs.declared.bit.Bit.TheVariants.{Unknown}
use Rattle.lg_value.specs.Bit.{is_defined_bit}
use Rattle.lg_value.specs.Word.{number_of}

-- the bits of a port or of what is stored, bit 0 first
abbrev pub Word : Type 0
Word = List Bit

-- the word at a place of a list
abbrev pub word_at : List Word → ℕ → Word
word_at words place = slice_index_or words place []

-- the bit of the word at a place, where that has one bit
abbrev pub bit_at : List Word → ℕ → Bit
bit_at words place = slice_index_or (word_at words place) 0 Unknown

-- the number of a word whose bits are all 0 or 1, and none where some bit is undefined
abbrev pub defined_number : Word → Option ℕ
defined_number word = if list_all is_defined_bit word then Some (number_of word) else None
