-- Gates and buffers with a control: their ports and what they answer. Source: the library reference of Logisim-evolution,
-- Gates Library (the attributes Output Value and Negate); order and ranges are this project's.
use Rattle.std.specs.Prelude.{ℕ, ◌≡◌, ◌≤◌, Bool, true, false, List, [], ◌∷◌, length, map, replicate, Option, None, Some, slice_index_or, All}
use Rattle.std.specs.List.{list_all, list_any, range_with_len}
use Rattle.lg_value.specs.Word.{IsWidth, IsDefined}
use Rattle.lg_gates.specs.declared.gates.GateKind.{GateKind}
use Rattle.lg_gates.specs.Gate.{gate_word}
use Rattle.lg_gates.specs.Shape.{not_word, buffer_word, controlled_word, shape_word}
use Rattle.lg_memory.specs.Inputs.{Word, word_at, bit_at}
use Rattle.lg_shapes.specs.declared.gates.Gate.{Gate}
use Rattle.lg_shapes.specs.declared.gates.Gate.TheVariants.{Not, Buffer, Logic, ControlledBuffer, ControlledInverter}

-- widths and numbers of inputs in their ranges
abbrev pub IsGate : Gate → Type 0
IsGate (Not width size out) = IsWidth width
IsGate (Buffer width out) = IsWidth width
IsGate (Logic kind width size negated out) = IsWidth width × (2 ≤ length negated) × (length negated ≤ 64)
IsGate (ControlledBuffer width control) = IsWidth width
IsGate (ControlledInverter width control) = IsWidth width

-- the widths of the inputs
abbrev pub gate_inputs : Gate → List ℕ
gate_inputs (Not width size out) = width ∷ []
gate_inputs (Buffer width out) = width ∷ []
gate_inputs (Logic kind width size negated out) = replicate (length negated) width
gate_inputs (ControlledBuffer width control) = width ∷ 1 ∷ []
gate_inputs (ControlledInverter width control) = width ∷ 1 ∷ []

-- the width of the output
abbrev pub gate_outputs : Gate → List ℕ
gate_outputs (Not width size out) = width ∷ []
gate_outputs (Buffer width out) = width ∷ []
gate_outputs (Logic kind width size negated out) = width ∷ []
gate_outputs (ControlledBuffer width control) = width ∷ []
gate_outputs (ControlledInverter width control) = width ∷ []

-- an input as a gate reads it: none where nothing is attached, inverted where it is negated
abbrev pub read_input : Bool → Bool → Word → Option Word
read_input negated false word = None
read_input false true word = Some word
read_input true true word = Some (not_word word)

-- input number k so
abbrev pub read_at : List Bool → List Bool → List Word → ℕ → Option Word
read_at negated attached words k = read_input (slice_index_or negated k false) (slice_index_or attached k false) (word_at words k)

-- all inputs so
abbrev pub read_inputs : List Bool → List Bool → List Word → List (Option Word)
read_inputs negated attached words = map (read_at negated attached words) (range_with_len 0 (length words))

-- the word of a gate of several inputs, before its output form
abbrev pub logic_word : GateKind → ℕ → List Bool → Bool → List Bool → List Word → Word
logic_word kind width negated strict attached inputs = gate_word kind width (read_inputs negated attached inputs) strict

-- the word at the output
abbrev pub gate_words : Gate → Bool → List Bool → List Word → List Word
gate_words (Not width size out) strict attached inputs = shape_word out (not_word (word_at inputs 0)) ∷ []
gate_words (Buffer width out) strict attached inputs = shape_word out (buffer_word (word_at inputs 0)) ∷ []
gate_words (Logic kind width size negated out) strict attached inputs = shape_word out (logic_word kind width negated strict attached inputs) ∷ []
gate_words (ControlledBuffer width control) strict attached inputs = controlled_word false (word_at inputs 0) (bit_at inputs 1) ∷ []
gate_words (ControlledInverter width control) strict attached inputs = controlled_word true (word_at inputs 0) (bit_at inputs 1) ∷ []

-- a gate of several inputs has those that it needs: one is attached, and each where the project asks for it
abbrev pub HasInputs : Gate → Bool → List Bool → Type 0
HasInputs (Logic kind width size negated out) strict attached =
    (list_any (λ there. there) attached ≡ true) × (strict ≡ true → list_all (λ there. there) attached ≡ true)
HasInputs _ strict attached = Unit

-- the inputs that a gate reads are defined: the attached ones of a gate of several, else all
abbrev pub ReadsDefined : Gate → List Bool → List Word → Type 0
ReadsDefined (Logic kind width size negated out) attached inputs = (k : ℕ) → slice_index_or attached k false ≡ true → IsDefined (word_at inputs k)
ReadsDefined _ attached inputs = All IsDefined inputs
