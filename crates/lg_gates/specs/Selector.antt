-- What a bit selector answers. Source: the library reference of Logisim-evolution, Plexers Library
-- (Bit Selector).
use Rattle.std.specs.Prelude.{ℕ, ◌*◌, if◌then◌else◌, List, map, replicate, slice_index_or}
use Rattle.std.specs.List.{range_with_len}
use Rattle.lg_value.specs.declared.bit.Bit.{Bit}
use Rattle.lg_value.specs.declared.bit.Bit.TheVariants.{Zero, Error}
use Rattle.lg_value.specs.Word.{number_of}
use Rattle.lg_gates.specs.Gate.{all_defined}

-- some bits of a word from a place on, 0 past the word's end
abbrev pub bits_from : List Bit → ℕ → ℕ → List Bit
bits_from word start count = map (λ place. slice_index_or word place Zero) (range_with_len start count)

-- the group of bits that the select numbers, the first group being number 0; an undefined select gives
-- an error in each bit
unfoldable pub group_word : List Bit → List Bit → ℕ → List Bit
group_word input select group =
    if all_defined select then bits_from input (number_of select * group) group
    else replicate group Error
