-- What plexers answer. Source: the library reference of Logisim-evolution, Plexers Library (Multiplexer,
-- Demultiplexer, Decoder; the attributes Three-state, Include Enable and Disabled Output).
use Rattle.std.specs.Prelude.{◌≡◌, ℕ, ◌==◌, if◌then◌else◌, List, [], ◌∷◌, All, replicate, length, slice_index_or}
use Rattle.lg_value.specs.declared.bit.Bit.{Bit}
use Rattle.lg_value.specs.declared.bit.Bit.TheVariants.{Zero, Error}
use Rattle.lg_value.specs.Word.{number_of}
use Rattle.lg_gates.specs.Gate.{all_defined}

-- the width of the first of some words, and 0 where there is none
abbrev pub first_width : List (List Bit) → ℕ
first_width [] = 0
first_width (first ∷ others) = length first

-- the words have one width
abbrev pub HaveOneWidth : List (List Bit) → Type 0
HaveOneWidth words = All (λ word. length word ≡ first_width words) words

-- a multiplexer without enable: the selected item as it is; an undefined select gives an error in
-- each bit
unfoldable pub pick_word : List Bit → List (List Bit) → List Bit
pick_word select items =
    if all_defined select then slice_index_or items (number_of select) []
    else replicate (first_width items) Error

-- one output of a demultiplexer or decoder without enable: the input where the output is the selected
-- one, else off in each bit; an undefined select gives an error in each bit
unfoldable pub spread_word : List Bit → List Bit → ℕ → Bit → List Bit
spread_word select input place off =
    if all_defined select then (if number_of select == place then input else replicate (length input) off)
    else replicate (length input) Error

-- an output under an enable: 0 turns each bit off, an error gives an error, and 1 and a floating enable
-- let the value through
abbrev pub enabled_word : Bit → List Bit → Bit → List Bit
enabled_word Zero value off = replicate (length value) off
enabled_word Error value off = replicate (length value) Error
enabled_word _ value off = value
