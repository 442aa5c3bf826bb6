-- Which inputs the outputs of a shape read at once, which shapes can be exported, and which inputs are clock, clear and preset.
-- Source: the library reference of Logisim-evolution; what can be exported is this project's choice.
use Rattle.std.specs.Prelude.{ℕ, ◌==◌, nat_lt, Bool, true, false, not, ◌&&◌, ◌||◌, Option, None}
use Rattle.lg_gates.specs.declared.outputs.OutForm.{OutForm}
use Rattle.lg_gates.specs.declared.outputs.OutForm.TheVariants.{ZeroOne}
use Rattle.lg_memory.specs.declared.form.Trigger.{Trigger}
use Rattle.lg_memory.specs.Controls as memory
use Rattle.lg_memory.specs.Reads as holding
use Rattle.lg_shapes.specs.declared.gates.Gate.{Gate as GateOf}
use Rattle.lg_shapes.specs.declared.gates.Gate.TheVariants.{Not, Buffer, Logic, ControlledBuffer, ControlledInverter}
use Rattle.lg_shapes.specs.declared.plexers.Disabled.{Disabled}
use Rattle.lg_shapes.specs.declared.plexers.Disabled.TheVariants.{Float, Zero}
use Rattle.lg_shapes.specs.declared.plexers.Plexer.{Plexer as PlexerOf}
use Rattle.lg_shapes.specs.declared.plexers.Plexer.TheVariants.{Multiplexer, Demultiplexer, Decoder, PriorityEncoder, BitSelector}
use Rattle.lg_shapes.specs.declared.wiring.Wiring.{Wiring as WiringOf}
use Rattle.lg_shapes.specs.declared.wiring.Wiring.TheVariants.{BitExtender}
use Rattle.lg_shapes.specs.declared.shape.Shape.{Shape}
use Rattle.lg_shapes.specs.declared.shape.Shape.TheVariants.{Wiring, Gate, Plexer, Arithmetic, Memory}

-- a bit extender reads `ext` where its output is wider than its input
abbrev pub wiring_reads : WiringOf → ℕ → Bool
wiring_reads (BitExtender from to extension) input = (input == 0) || nat_lt from to
wiring_reads _ input = true

-- whether an output reads an input
abbrev pub reads : Shape → ℕ → ℕ → Bool
reads (Wiring part) output input = wiring_reads part input
reads (Gate gate) output input = true
reads (Plexer plexer) output input = true
reads (Arithmetic part) output input = true
reads (Memory form) output input = holding.reads form output input

-- an output form shows a 0 and a 1 as they are
abbrev pub shows_both : OutForm → Bool
shows_both ZeroOne = true
shows_both _ = false

-- an output that is not enabled is driven
abbrev pub is_driven : Disabled → Bool
is_driven Float = false
is_driven Zero = true

-- no output floats: of a gate
abbrev pub is_gate_exportable : GateOf → Bool
is_gate_exportable (Not width size out) = shows_both out
is_gate_exportable (Buffer width out) = shows_both out
is_gate_exportable (Logic kind width size negated out) = shows_both out
is_gate_exportable (ControlledBuffer width control) = false
is_gate_exportable (ControlledInverter width control) = false

-- of a plexer
abbrev pub is_plexer_exportable : PlexerOf → Bool
is_plexer_exportable (Multiplexer width select enable disabled corner) = not enable || is_driven disabled
is_plexer_exportable (Demultiplexer width select enable disabled corner tristate) = (not enable || is_driven disabled) && not tristate
is_plexer_exportable (Decoder select enable disabled tristate) = (not enable || is_driven disabled) && not tristate
is_plexer_exportable (PriorityEncoder select disabled) = is_driven disabled
is_plexer_exportable (BitSelector width group) = true

-- of any shape
abbrev pub is_exportable : Shape → Bool
is_exportable (Gate gate) = is_gate_exportable gate
is_exportable (Plexer plexer) = is_plexer_exportable plexer
is_exportable _ = true

-- the trigger and the index of the clock
abbrev pub clock_of : Shape → Option (Trigger × ℕ)
clock_of (Memory form) = memory.clock_of form
clock_of _ = None

-- the index of the clear input
abbrev pub clear_of : Shape → Option ℕ
clear_of (Memory form) = memory.clear_of form
clear_of _ = None

-- the index of the preset input
abbrev pub preset_of : Shape → Option ℕ
preset_of (Memory form) = memory.preset_of form
preset_of _ = None
