-- Static values: what a netlist without time says of each net, for one row of inputs; and the rows of a netlist, one after
-- another. Source: the Logisim-evolution user guide, Value propagation, with all delays left out.
use Rattle.std.specs.Prelude.{◌≡◌, ℕ, Bool, false, not, ◌&&◌, ◌==◌, is_none, List, [], ◌∷◌, ◌++◌, length, filter, map, zip, Option, Some, None, ◌⊎◌, slice_get, slice_index_or}
use Rattle.std.specs.List.{enumerate_from}
use Rattle.lg_value.specs.declared.bit.Bit.{Bit}
use Rattle.lg_value.specs.declared.bit.Bit.TheVariants.{Zero}
use Rattle.lg_value.specs.Word.{IsDefined}
use Rattle.lg_netlist.specs.declared.netlist.PartUse.{PartUse}
use Rattle.lg_netlist.specs.declared.netlist.PinUse.{PinUse}
use Rattle.lg_netlist.specs.declared.netlist.Netlist.{Netlist}
use Rattle.lg_netlist.specs.Acceptance.{is_undriven}
use Rattle.lg_netlist.specs.Cell.{State, cell_word, start_state, cell_step}

-- the pins without the clock pin
abbrev pub data_pins : Netlist → List PinUse
data_pins n = map (λ (p : ℕ × PinUse). p.1) (filter (λ (p : ℕ × PinUse). not (is_clock_pin n.clock_pin p.0)) (enumerate_from 0 n.pins))
  where
    is_clock_pin : Option ℕ → ℕ → Bool
    is_clock_pin None place = false
    is_clock_pin (Some pin) place = pin == place

-- the input pins that a row gives words to, and the output pins that it is read from
abbrev pub input_pins : Netlist → List PinUse
input_pins n = filter (λ p. p.input) (data_pins n)

abbrev pub output_pins : Netlist → List PinUse
output_pins n = filter (λ p. not p.input) (data_pins n)

-- no clock, and no pin that serves as one
abbrev pub has_no_clock : Netlist → Bool
has_no_clock n = length n.clocks == 0 && is_none n.clock_pin

-- the nets of the pin at a place among these, if there is one
abbrev pub bits_at : List PinUse → Option ℕ → List ℕ
bits_at pins None = []
bits_at pins (Some place) = bits_of (slice_get pins place)
  where
    bits_of : Option PinUse → List ℕ
    bits_of None = []
    bits_of (Some pin) = pin.bits

-- the nets that tick: those of the clocks and of the clock pin
abbrev pub clock_nets : Netlist → List ℕ
clock_nets n = map (λ (c : ℕ × List ℕ). c.0) n.clocks ++ bits_at n.pins n.clock_pin

-- the word on some net bits
abbrev pub word_on : (ℕ → Bit) → List ℕ → List Bit
word_on value bits = map value bits

-- the word at an input port, or none where nothing is attached
abbrev pub word_at : (ℕ → Bit) → List ℕ → Option (List Bit)
word_at value [] = None
word_at value (bit ∷ bits) = Some (word_on value (bit ∷ bits))

-- the words at the inputs of a part
abbrev pub inputs_of : (ℕ → Bit) → PartUse → List (Option (List Bit))
inputs_of value p = map (word_at value) p.inputs

-- the state of the part of a number
abbrev pub state_of : List State → ℕ → State
state_of states part = slice_index_or states part []

-- the net bits of an output port carry its word, where it is attached
abbrev pub Carries : (ℕ → Bit) → List ℕ → List Bit → Type 0
Carries value bits word = (bits ≡ []) ⊎ (word_on value bits ≡ word)

-- a part's outputs carry what it answers to its state and its inputs
abbrev pub PartCarries : (ℕ → Bit) → State → PartUse → Type 0
PartCarries value state p =
    (output : ℕ) (bits : List ℕ) → slice_get p.outputs output ≡ Some bits → Carries value bits (cell_word p.cell state (inputs_of value p) output)

-- These are the values of the nets, where the parts have these states: an input pin gives its word, a clock 0, and a part
-- its answer to the values of its inputs.
pub record AreStaticValues (n : Netlist) (states : List State) (row : List (List Bit)) (value : ℕ → Bit) : Type 0 where
  pub pins : map (λ p. word_on value p.bits) (input_pins n) ≡ row
  pub clocks : map value (clock_nets n) ≡ map (λ net. Zero) (clock_nets n)
  pub parts : (part : ℕ) (p : PartUse) → slice_get n.parts part ≡ Some p → PartCarries value (state_of states part) p

-- these are the values, and no other values are on the nets that something drives
pub record AreTheStaticValues (n : Netlist) (states : List State) (row : List (List Bit)) (value : ℕ → Bit) : Type 0 where
  pub are : AreStaticValues n states row value
  pub only : (other : ℕ → Bit) → AreStaticValues n states row other → (net : ℕ) → is_undriven n net ≡ false → other net ≡ value net

-- the words of the output pins
abbrev pub output_words : Netlist → (ℕ → Bit) → List (List Bit)
output_words n value = map (λ p. word_on value p.bits) (output_pins n)

-- the states of the parts at the start
abbrev pub start_states : Netlist → List State
start_states n = map (λ p. start_state p.cell) n.parts

-- the states after an edge of the clock: no part has a trigger yet, so its inputs stay
abbrev pub states_after : Netlist → (ℕ → Bit) → List State → List State
states_after n value states = map (λ (p : State × PartUse). cell_step p.1.cell p.0 (inputs_of value p.1) (inputs_of value p.1)) (zip states n.parts)

-- the outputs of rows one after another: of each row those of its static values, and then comes an edge
abbrev pub AreStaticRows : Netlist → List State → List (List (List Bit)) → List (List (List Bit)) → Type 0
AreStaticRows n states [] [] = Unit {0}
AreStaticRows n states (row ∷ rows) (out ∷ outs) =
    (value : ℕ → Bit) × AreTheStaticValues n states row value × (output_words n value ≡ out) × AreStaticRows n (states_after n value states) rows outs
AreStaticRows n states [] (out ∷ outs) = ⊥
AreStaticRows n states (row ∷ rows) [] = ⊥

-- one defined word for each input pin, of its width
abbrev pub IsDefinedRow : List PinUse → List (List Bit) → Type 0
IsDefinedRow [] [] = Unit {0}
IsDefinedRow (p ∷ pins) (word ∷ words) = IsDefined word × (length word ≡ length p.bits) × IsDefinedRow pins words
IsDefinedRow [] (word ∷ words) = ⊥
IsDefinedRow (p ∷ pins) [] = ⊥
