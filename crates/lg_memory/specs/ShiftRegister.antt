-- What a triggered shift register holds, stage 0 first. Source: the library reference of Logisim-evolution, Memory
-- Library, Shift Register.
use Rattle.std.specs.Prelude.{Bool, true, false, List, ◌∷◌, length, take, drop}
use Rattle.lg_value.specs.declared.bit.Bit.{Bit}
use Rattle.lg_value.specs.declared.bit.Bit.TheVariants.{Zero, One}
use Rattle.lg_memory.specs.Inputs.{Word, word_at, bit_at}

-- each stage takes the one before it, and stage 0 a new word
abbrev pub shifted : Word → List Word → List Word
shifted si stages = take (length stages) (si ∷ stages)

-- the load input, which only parallel stages have
abbrev pub load_bit : Bool → List Word → Bit
load_bit true inputs = bit_at inputs 4
load_bit false inputs = Zero

-- the stages load where `ld` is 1, else hold where `sh` is 0, else shift
abbrev pub loads_or_shifts : Bit → Bit → List Word → List Word → List Word → List Word
loads_or_shifts One sh d held next = d
loads_or_shifts _ Zero d held next = held
loads_or_shifts _ _ d held next = next

-- the stages of a triggered shift register. Inputs by place: 0 `si`, 1 `sh`, 2 `clk`, 3 `clr`, and where the
-- stages are parallel 4 `ld` and from 5 on their data.
abbrev pub shift_words : Bool → List Word → List Word → List Word
shift_words parallel stages inputs =
    loads_or_shifts (load_bit parallel inputs) (bit_at inputs 1) (drop 5 inputs) stages
    (shifted (word_at inputs 0) stages)
