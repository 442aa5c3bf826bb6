-- Gates with ports of one bit.
use Rattle.std.specs.Prelude.{ℕ, List, [], ◌∷◌, slice_index_or}
use Rattle.lg_value.specs.declared.bit.Bit.{Bit}
use Rattle.lg_value.specs.declared.bit.Bit.TheVariants.{Unknown}
use Rattle.lg_value.specs.Bit.{not_bit}
use Rattle.lg_timing.specs.Circuit.{Word, Port, Part}

-- the lowest bit of the word at a place, and unknown where there is none
abbrev pub bit_in : List Word → ℕ → Bit
bit_in words place = slice_index_or (slice_index_or words place []) 0 Unknown

abbrev pub one_word : Bit → List Word
one_word b = (b ∷ []) ∷ []

-- a part without a state
abbrev pub gate_in : ℕ → (List Word → List Word) → List Port → List Port → Part
gate_in delay f inputs outputs = record {
  delay = delay;
  inputs = inputs;
  outputs = outputs;
  start = [];
  step = λ state before now. state;
  out = λ state now. f now;
}

-- with a delay of 1
abbrev pub gate : (List Word → List Word) → List Port → List Port → Part
gate = gate_in 1

abbrev pub not_gate : List Port → List Port → Part
not_gate = gate (λ now. one_word (not_bit (bit_in now 0)))
