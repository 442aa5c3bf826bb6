-- What every netlist keeps: names that a module can spell, nets that exist, and ports that fit their cells.
use Rattle.std.specs.Prelude.{◌≡◌, ◌<◌, ◌≤◌, ◌^◌, ◌==◌, ℕ, Bool, true, ◌||◌, IsTrue, List, map, length, slice_get, slice_index_or, [], Option, IfSome, All}
use Rattle.std.specs.List.{IsDistinct}
use Rattle.std.specs.Str.{bytes_eq}
use Rattle.lg_netlist.specs.declared.netlist.Cell.{Cell}
use Rattle.lg_netlist.specs.declared.netlist.Cell.TheVariants.{Not, And, Or}
use Rattle.lg_netlist.specs.declared.netlist.PartUse.{PartUse}
use Rattle.lg_netlist.specs.declared.netlist.PinUse.{PinUse}
use Rattle.lg_netlist.specs.Cell.{input_width, output_width}
use Rattle.lg_names.specs.Names.{is_pin_name}

-- how many inputs a cell takes at least and at most
abbrev pub least_inputs : Cell → ℕ
least_inputs Not = 1
least_inputs And = 2
least_inputs Or = 2

abbrev pub most_inputs : Cell → ℕ
most_inputs Not = 1
most_inputs And = 64
most_inputs Or = 64

abbrev pub TakesInputs : Cell → ℕ → Type 0
TakesInputs cell count = (least_inputs cell ≤ count) × (count ≤ most_inputs cell)

-- nets that are among so many
abbrev pub AreNets : ℕ → List ℕ → Type 0
AreNets nets bits = All (λ net. net < nets) bits

-- the bits of a port: as many as a word has at most, on nets that exist, and none where nothing is attached
pub record IsPort (nets : ℕ) (bits : List ℕ) : Type 0 where
  pub few_bits : length bits ≤ 64
  pub on_nets : AreNets nets bits

-- nothing is attached to a port, or it has so many bits
abbrev pub has_width : ℕ → List ℕ → Bool
has_width width bits = length bits == 0 || length bits == width

-- each of these ports has its width
abbrev pub HaveWidths : (ℕ → ℕ) → List (List ℕ) → Type 0
HaveWidths width ports = (port : ℕ) → port < length ports → IsTrue (has_width (width port) (slice_index_or ports port []))

-- a part with the ports of its cell
pub record IsFittingPart (nets : ℕ) (p : PartUse) : Type 0 where
  pub takes : TakesInputs p.cell (length p.inputs)
  pub gives : length p.outputs ≡ 1
  pub inputs : All (IsPort nets) p.inputs
  pub outputs : All (IsPort nets) p.outputs
  pub input_widths : HaveWidths (input_width p.cell) p.inputs
  pub output_widths : HaveWidths (output_width p.cell) p.outputs

-- a pin of 1 to 64 bits with a name that a module can spell
pub record IsFittingPin (nets : ℕ) (p : PinUse) : Type 0 where
  pub named : IsTrue (is_pin_name p.name)
  pub some_bits : 1 ≤ length p.bits
  pub few_bits : length p.bits ≤ 64
  pub on_nets : AreNets nets p.bits

-- an input pin of one bit stands at this place among the pins
abbrev pub IsInputAt : List PinUse → ℕ → Type 0
IsInputAt pins place = IfSome (slice_get pins place) (λ pin. (pin.input ≡ true) × (length pin.bits ≡ 1))

-- parts, pins and clocks are counted in 32 bits, parts and pins fit, clocks are on nets, names of pins differ, and the clock pin is an input pin of one bit
pub record IsValid (parts : List PartUse) (pins : List PinUse) (clocks : List (ℕ × List ℕ)) (nets : ℕ) (clock_pin : Option ℕ) : Type 0 where
  pub few_parts : length parts < 2 ^ 32
  pub few_pins : length pins < 2 ^ 32
  pub few_clocks : length clocks < 2 ^ 32
  pub parts_fit : All (IsFittingPart nets) parts
  pub pins_fit : All (IsFittingPin nets) pins
  pub clocks_fit : All (λ (c : ℕ × List ℕ). c.0 < nets) clocks
  pub names_differ : IsDistinct bytes_eq (map (λ p. p.name) pins)
  pub clock_pin_is_input : IfSome clock_pin (IsInputAt pins)
