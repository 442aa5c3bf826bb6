-- A circuit as time sees it: parts with delays, what drives and pulls each net, pins and clocks.
-- Source: the Logisim-evolution user guide, Value propagation and Wire values, with transport delays by this project's choice.
use Rattle.std.specs.Prelude.{ℕ, List}
use Rattle.lg_value.specs.declared.bit.Bit.{Bit}

-- the bits of a port, bit 0 first
abbrev pub Word : Type 0
Word = List Bit

-- a port: the net of each of its bits, or no net where nothing is attached; and how many bits it has
pub record Port : Type 0 where
  pub nets : List ℕ
  pub width : ℕ

-- A part. Its state is a list of words, which is empty for a part without one. `step` gives the next state from the
-- state, the inputs before and the inputs now; `out` gives a word for each output.
pub record Part : Type 0 where
  -- of kinds 1 to 255
  pub delay : ℕ
  pub inputs : List Port
  pub outputs : List Port
  pub start : List Word
  pub step : List Word → List Word → List Word → List Word
  pub out : List Word → List Word → List Word

-- pulls are nets with the bit that they are pulled to; pins have the net of each of their bits
pub record Circuit : Type 0 where
  pub parts : List Part
  pub pulls : List (ℕ × Bit)
  -- the input pins but for the clock pin
  pub pins : List (List ℕ)
  -- the output pins
  pub outputs : List (List ℕ)
  -- the nets that tick: those of clocks and of the clock pin
  pub clocks : List ℕ

-- what is put on the pins from an instant on: a word for each input pin, and one bit for all clocks
pub record Stimulus : Type 0 where
  pub from : ℕ
  pub words : List Word
  pub clock : Bit
