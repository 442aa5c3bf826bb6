-- A netlist in time: parts with the delays and the answers of their cells.
-- Source: the library reference of Logisim-evolution, Gates, for what they answer; delays are this project's choice.
use Rattle.std.specs.Prelude.{ℕ, List, [], ◌∷◌, map, Option, Some, None}
use Rattle.lg_timing.specs.Circuit.{Word, Port, Part, Circuit}
use Rattle.lg_netlist.specs.declared.netlist.PartUse.{PartUse}
use Rattle.lg_netlist.specs.declared.netlist.PinUse.{PinUse}
use Rattle.lg_netlist.specs.declared.netlist.Netlist.{Netlist}
use Rattle.lg_netlist.specs.Cell.{input_width, output_width, cell_word, delay_of, start_state, cell_step}
use Rattle.lg_netlist.specs.Drivers.{numbered}
use Rattle.lg_netlist.specs.Static.{input_pins, output_pins, clock_nets}

-- numbered ports with the widths of those numbers
abbrev pub ports_of : (ℕ → ℕ) → List (ℕ × List ℕ) → List Port
ports_of width ports = map (λ (p : ℕ × List ℕ). record { nets = p.1; width = width p.0 }) ports

-- the words of attached inputs, and none of the others
abbrev pub given : List (List ℕ) → List Word → List (Option Word)
given ([] ∷ ports) (word ∷ words) = None ∷ given ports words
given ((net ∷ bits) ∷ ports) (word ∷ words) = Some word ∷ given ports words
given _ _ = []

-- a part starts, steps and answers as its cell does; a port has its width where nothing is attached, too
abbrev pub part_of : PartUse → Part
part_of p = record {
  delay = delay_of p.cell;
  inputs = ports_of (input_width p.cell) (numbered p.inputs);
  outputs = ports_of (output_width p.cell) (numbered p.outputs);
  start = start_state p.cell;
  step = λ state before now. cell_step p.cell state (given p.inputs before) (given p.inputs now);
  out = λ state words. map (λ (o : ℕ × List ℕ). cell_word p.cell state (given p.inputs words) o.0) (numbered p.outputs);
}

-- the circuit that a netlist is; pull resistors are still to come
abbrev pub circuit_of : Netlist → Circuit
circuit_of n = record {
  parts = map part_of n.parts;
  pulls = [];
  pins = map (λ (p : PinUse). p.bits) (input_pins n);
  outputs = map (λ (p : PinUse). p.bits) (output_pins n);
  clocks = clock_nets n;
}
