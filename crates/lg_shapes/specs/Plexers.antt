-- Plexers: their ports and what they answer. Source: the library reference of Logisim-evolution, Plexers Library (the
-- attributes Three-state, Include Enable and Disabled Output); order and ranges are this project's.
use Rattle.std.specs.Prelude.{ℕ, ◌+◌, ◌^◌, ◌≤◌, Bool, true, false, if◌then◌else◌, List, [], ◌∷◌, ◌++◌, length, map, replicate, take, slice_index_or}
use Rattle.std.specs.List.{range_with_len}
use Rattle.lg_value.specs.declared.bit.Bit.{Bit}
use Rattle.lg_value.specs.declared.bit.Bit.TheVariants as bit
use Rattle.lg_value.specs.Word.{IsWidth}
use Rattle.lg_gates.specs.Plexer.{pick_word, spread_word, enabled_word}
use Rattle.lg_gates.specs.Priority.{priority_of}
use Rattle.lg_gates.specs.Selector.{group_word}
use Rattle.lg_arith.specs.Count.{select_width}
use Rattle.lg_memory.specs.Inputs.{Word, word_at, bit_at}
use Rattle.lg_shapes.specs.declared.plexers.Disabled.{Disabled}
use Rattle.lg_shapes.specs.declared.plexers.Disabled.TheVariants.{Float, Zero}
use Rattle.lg_shapes.specs.declared.plexers.Plexer.{Plexer}
use Rattle.lg_shapes.specs.declared.plexers.Plexer.TheVariants.{Multiplexer, Demultiplexer, Decoder, PriorityEncoder, BitSelector}

-- a select has 1 to 5 bits
abbrev pub IsSelect : ℕ → Type 0
IsSelect select = (1 ≤ select) × (select ≤ 5)

-- widths in their ranges
abbrev pub IsPlexer : Plexer → Type 0
IsPlexer (Multiplexer width select enable disabled corner) = IsWidth width × IsSelect select
IsPlexer (Demultiplexer width select enable disabled corner tristate) = IsWidth width × IsSelect select
IsPlexer (Decoder select enable disabled tristate) = IsSelect select
IsPlexer (PriorityEncoder select disabled) = IsSelect select
IsPlexer (BitSelector width group) = IsWidth width × (1 ≤ group) × (group ≤ width)

-- the enable, where there is one
abbrev pub enable_width : Bool → List ℕ
enable_width true = 1 ∷ []
enable_width false = []

-- the widths of a priority encoder's outputs
abbrev pub encoder_widths : ℕ → List ℕ
encoder_widths select = select ∷ 1 ∷ 1 ∷ []

-- the widths of the inputs
abbrev pub plexer_inputs : Plexer → List ℕ
plexer_inputs (Multiplexer width select enable disabled corner) = replicate (2 ^ select) width ++ select ∷ enable_width enable
plexer_inputs (Demultiplexer width select enable disabled corner tristate) = width ∷ select ∷ enable_width enable
plexer_inputs (Decoder select enable disabled tristate) = select ∷ enable_width enable
plexer_inputs (PriorityEncoder select disabled) = replicate (2 ^ select) 1 ++ 1 ∷ []
plexer_inputs (BitSelector width group) = width ∷ select_width group width ∷ []

-- the widths of the outputs
abbrev pub plexer_outputs : Plexer → List ℕ
plexer_outputs (Multiplexer width select enable disabled corner) = width ∷ []
plexer_outputs (Demultiplexer width select enable disabled corner tristate) = replicate (2 ^ select) width
plexer_outputs (Decoder select enable disabled tristate) = replicate (2 ^ select) 1
plexer_outputs (PriorityEncoder select disabled) = encoder_widths select
plexer_outputs (BitSelector width group) = group ∷ []

-- the bit that stands for no answer: it floats, or is 0
abbrev pub off_bit : Disabled → Bit
off_bit Float = bit.Unknown
off_bit Zero = bit.Zero

-- the bit at an output that is not selected
abbrev pub off_line : Bool → Bit
off_line tristate = if tristate then bit.Unknown else bit.Zero

-- a word under the enable at an index, where there is one
abbrev pub under_enable : Bool → Disabled → List Word → ℕ → Word → Word
under_enable true disabled inputs index word = enabled_word (bit_at inputs index) word (off_bit disabled)
under_enable false disabled inputs index word = word

-- the word at the output of a multiplexer
abbrev pub multiplexed : ℕ → Bool → Disabled → List Word → Word
multiplexed select enable disabled inputs =
    under_enable enable disabled inputs (2 ^ select + 1) (pick_word (word_at inputs (2 ^ select)) (take (2 ^ select) inputs))

-- the word at an output of a demultiplexer
abbrev pub demultiplexed : Bool → Disabled → Bool → List Word → ℕ → Word
demultiplexed enable disabled tristate inputs output =
    under_enable enable disabled inputs 2 (spread_word (word_at inputs 1) (word_at inputs 0) output (off_line tristate))

-- the word at an output of a decoder
abbrev pub decoded : Bool → Disabled → Bool → List Word → ℕ → Word
decoded enable disabled tristate inputs output =
    under_enable enable disabled inputs 1 (spread_word (word_at inputs 0) (bit.One ∷ []) output (off_line tristate))

-- the lowest bits of some words
abbrev pub first_bits : List Word → List Bit
first_bits words = map (λ word. slice_index_or word 0 bit.Unknown) words

-- a word for each of the lines that a select numbers
abbrev pub each_line : ℕ → (ℕ → Word) → List Word
each_line select line = map line (range_with_len 0 (2 ^ select))

-- the words of an address, a group bit and an enable output
abbrev pub three_words : Word × Bit × Bit → List Word
three_words answer = answer.0 ∷ (answer.1 ∷ []) ∷ (answer.2 ∷ []) ∷ []

-- the words at the outputs of a priority encoder
abbrev pub encoded : ℕ → Disabled → List Word → List Word
encoded select disabled inputs =
    three_words (priority_of (first_bits (take (2 ^ select) inputs)) (bit_at inputs (2 ^ select)) select (off_bit disabled))

-- the words at the outputs
abbrev pub plexer_words : Plexer → List Word → List Word
plexer_words (Multiplexer width select enable disabled corner) inputs = multiplexed select enable disabled inputs ∷ []
plexer_words (Demultiplexer width select enable disabled corner tristate) inputs = each_line select (demultiplexed enable disabled tristate inputs)
plexer_words (Decoder select enable disabled tristate) inputs = each_line select (decoded enable disabled tristate inputs)
plexer_words (PriorityEncoder select disabled) inputs = encoded select disabled inputs
plexer_words (BitSelector width group) inputs = group_word (word_at inputs 0) (word_at inputs 1) group ∷ []
