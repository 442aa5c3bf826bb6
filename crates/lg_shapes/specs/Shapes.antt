-- What each shape has and does: its ports, what it holds, what it answers and what that reads. Source: the library reference
-- of Logisim-evolution; order and ranges are this project's.
use Rattle.std.specs.Prelude.{◌≡◌, ℕ, Bool, List, [], All}
use Rattle.lg_value.specs.Word.{IsDefined}
use Rattle.lg_memory.specs.declared.form.StateForm.{StateForm}
use Rattle.lg_memory.specs.declared.state.State.{State}
use Rattle.lg_memory.specs.declared.state.State.TheVariants.{None as NoWord}
use Rattle.lg_memory.specs.Form.{IsForm}
use Rattle.lg_memory.specs.Inputs.{Word}
use Rattle.lg_memory.specs.Shape.{HasShape}
use Rattle.lg_memory.specs.Shape as memory
use Rattle.lg_memory.specs.Step as holding
use Rattle.lg_shapes.specs.declared.shape.Shape.{Shape}
use Rattle.lg_shapes.specs.declared.shape.Shape.TheVariants.{Wiring, Gate, Plexer, Arithmetic, Memory}
use Rattle.lg_shapes.specs.Wiring.{IsWiring, wiring_inputs, wiring_outputs, wiring_words}
use Rattle.lg_shapes.specs.Gates.{IsGate, gate_inputs, gate_outputs, gate_words}
use Rattle.lg_shapes.specs.Gates as gates
use Rattle.lg_shapes.specs.Plexers.{IsPlexer, plexer_inputs, plexer_outputs, plexer_words}
use Rattle.lg_shapes.specs.Arithmetic.{IsArithmetic, arithmetic_inputs, arithmetic_outputs, arithmetic_words}

-- the numbers of a shape, on which its words depend, are in their ranges, and a constant is defined
abbrev pub IsShape : Shape → Type 0
IsShape (Wiring part) = IsWiring part
IsShape (Gate gate) = IsGate gate
IsShape (Plexer plexer) = IsPlexer plexer
IsShape (Arithmetic part) = IsArithmetic part
IsShape (Memory form) = IsForm form

-- the widths of the inputs
abbrev pub input_widths : Shape → List ℕ
input_widths (Wiring part) = wiring_inputs part
input_widths (Gate gate) = gate_inputs gate
input_widths (Plexer plexer) = plexer_inputs plexer
input_widths (Arithmetic part) = arithmetic_inputs part
input_widths (Memory form) = memory.input_widths form

-- the widths of the outputs
abbrev pub output_widths : Shape → List ℕ
output_widths (Wiring part) = wiring_outputs part
output_widths (Gate gate) = gate_outputs gate
output_widths (Plexer plexer) = plexer_outputs plexer
output_widths (Arithmetic part) = arithmetic_outputs part
output_widths (Memory form) = memory.output_widths form

-- a state of a shape; only the memory library has parts that hold something
abbrev pub HasState : Shape → State → Type 0
HasState (Memory form) state = HasShape form state
HasState _ state = state ≡ NoWord

-- words that a shape can hold
abbrev pub AreHeld : Shape → List Word → Type 0
AreHeld (Memory form) words = memory.AreHeld form words
AreHeld _ words = words ≡ []

-- a gate of several inputs has those that it needs
abbrev pub HasInputs : Shape → Bool → List Bool → Type 0
HasInputs (Gate gate) strict attached = gates.HasInputs gate strict attached
HasInputs _ strict attached = Unit

-- the inputs that a shape reads are defined
abbrev pub ReadsDefined : Shape → List Bool → List Word → Type 0
ReadsDefined (Gate gate) attached inputs = gates.ReadsDefined gate attached inputs
ReadsDefined _ attached inputs = All IsDefined inputs

-- the words at the outputs, from the words that are held and those of the inputs
abbrev pub output_words : Shape → Bool → List Bool → List Word → List Word → List Word
output_words (Wiring part) strict attached state inputs = wiring_words part inputs
output_words (Gate gate) strict attached state inputs = gate_words gate strict attached inputs
output_words (Plexer plexer) strict attached state inputs = plexer_words plexer inputs
output_words (Arithmetic part) strict attached state inputs = arithmetic_words part inputs
output_words (Memory form) strict attached state inputs = holding.outputs form state inputs

-- the words that are held at the start
abbrev pub start_words : Shape → List Word
start_words (Memory form) = holding.start_words form
start_words _ = []

-- the words that are held after a step
abbrev pub stepped : Shape → List Word → List Word → List Word → List Word
stepped (Memory form) state old new = holding.stepped form state old new
stepped _ state old new = state
