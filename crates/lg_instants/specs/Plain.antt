-- What the plain program of time stands for, and what it reads of a circuit.
use Rattle.std.specs.Prelude.{◌≡◌, ℕ, ◌==◌, ◌&&◌, ◌||◌, max, fold, nat_le, Bool, true, List, [], ◌∷◌, ◌++◌, length, map, replicate}
use Rattle.std.specs.List.{list_all}
use Rattle.lg_value.specs.declared.bit.Bit.{Bit}
use Rattle.lg_value.specs.Drivers.{joined_in_turn}
use Rattle.lg_instants.specs.declared.circuit.Circuit.{Circuit as Described}
use Rattle.lg_timing.specs.Circuit.{Word, Port, Part, Circuit, Stimulus}
use Rattle.lg_timing.specs.Instant.{Numbered, numbered_parts, input_words, words_on, bits_on, pulls_of, or_else}

-- the circuit that a described one stands for, where each part has a meaning
abbrev pub circuit_of : {P : Type 0} → (P → Part) → Described P → Circuit
circuit_of meaning c = record {
  parts = map meaning c.parts.items;
  pulls = c.pulls.items;
  pins = c.pins.items;
  outputs = c.outputs.items;
  clocks = c.clocks;
}

-- a word has 1 to 64 bits
abbrev pub is_width : ℕ → Bool
is_width width = nat_le 1 width && nat_le width 64

-- a port has 1 to 64 bits, and no net or one for each of them
abbrev pub is_port : Port → Bool
is_port p = is_width p.width && (length p.nets == 0 || length p.nets == p.width)

-- every port of the parts is one, and the output pins have 1 to 64 bits
pub record IsWellFormed (c : Circuit) : Type 0 where
  pub inputs : list_all (λ (p : Part). list_all is_port p.inputs) c.parts ≡ true
  pub outputs : list_all (λ (p : Part). list_all is_port p.outputs) c.parts ≡ true
  pub pins : list_all (λ (nets : List ℕ). is_width (length nets)) c.outputs ≡ true

-- the bits that parts with these output words put on a net
abbrev pub parts_on : ℕ → List Part → List (List Word) → List Bit
parts_on net (p ∷ parts) (words ∷ outputs) = words_on net (map (λ (port : Port). port.nets) p.outputs) words ++ parts_on net parts outputs
parts_on net _ _ = []

-- the bits that drive a net, from the output words of every part
abbrev pub drivers_from : Circuit → Stimulus → List (List Word) → ℕ → List Bit
drivers_from c s outputs net =
    parts_on net c.parts outputs ++ words_on net c.pins s.words ++ bits_on net c.clocks (replicate (length c.clocks) s.clock)

-- a net bit, from the output words of every part
unfoldable pub bit_from : Circuit → Stimulus → List (List Word) → ℕ → Bit
bit_from c s outputs net = or_else (joined_in_turn (drivers_from c s outputs net)) (joined_in_turn (pulls_of c net))

-- the words on every part's inputs
abbrev pub all_inputs : Circuit → (ℕ → Bit) → List (List Word)
all_inputs c nets = map (λ (p : Numbered). input_words nets p.1) (numbered_parts c)

-- the greatest delay of some parts, and 0 where there is none
abbrev pub greatest_delay : List Part → ℕ
greatest_delay parts = fold (λ (greatest : ℕ) (p : Part). max greatest p.delay) 0 parts
