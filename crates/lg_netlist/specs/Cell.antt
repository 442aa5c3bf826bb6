-- What the cells of a netlist are: their answers, delays, and ports. Source: the library reference of Logisim-evolution,
-- Gates Library, over four-valued bits; delays are this project's choice.
use Rattle.std.specs.Prelude.{ℕ, Bool, true, false, List, [], ◌∷◌, ◌++◌, Option, Some, replicate, codes}
use Rattle.std.specs.Fmt.{decimal}
use Rattle.lg_value.specs.declared.bit.Bit.{Bit}
use Rattle.lg_value.specs.declared.bit.Bit.TheVariants.{Unknown}
use Rattle.lg_gates.specs.declared.gates.GateKind.TheVariants as kind
use Rattle.lg_gates.specs.Gate.{gate_word}
use Rattle.lg_gates.specs.Shape.{not_word}
use Rattle.lg_netlist.specs.declared.cell.Loose.{Loose}
use Rattle.lg_netlist.specs.declared.cell.Loose.TheVariants as loose
use Rattle.lg_netlist.specs.declared.netlist.Cell.{Cell}
use Rattle.lg_netlist.specs.declared.netlist.Cell.TheVariants.{Not, And, Or}

-- what a part keeps from one row to the next: some words, and none so far
abbrev pub State : Type 0
State = List (List Bit)

-- how many bits an input port of a cell has
abbrev pub input_width : Cell → ℕ → ℕ
input_width Not input = 1
input_width And input = 1
input_width Or input = 1

-- how many bits an output port has
abbrev pub output_width : Cell → ℕ → ℕ
output_width Not output = 1
output_width And output = 1
output_width Or output = 1

-- the word of an input that only one is asked of: unknown where nothing is attached
abbrev pub only_word : ℕ → List (Option (List Bit)) → List Bit
only_word width (Some word ∷ []) = word
only_word width _ = replicate width Unknown

-- the word at an output of a cell, by its state and the words of its inputs; None is an unattached input
abbrev pub cell_word : Cell → State → List (Option (List Bit)) → ℕ → List Bit
cell_word Not state inputs output = not_word (only_word (input_width Not 0) inputs)
cell_word And state inputs output = gate_word kind.And (output_width And output) inputs false
cell_word Or state inputs output = gate_word kind.Or (output_width Or output) inputs false

-- the state of a cell at the start
abbrev pub start_state : Cell → State
start_state Not = []
start_state And = []
start_state Or = []

-- the state after the words of the inputs went from some to others: a gate keeps nothing
abbrev pub cell_step : Cell → State → List (Option (List Bit)) → List (Option (List Bit)) → State
cell_step Not state before now = state
cell_step And state before now = state
cell_step Or state before now = state

-- how many instants after its inputs a cell shows its output
abbrev pub delay_of : Cell → ℕ
delay_of Not = 1
delay_of And = 1
delay_of Or = 1

-- whether an output of a cell depends on one of its inputs
abbrev pub reads : Cell → ℕ → ℕ → Bool
reads Not output input = true
reads And output input = true
reads Or output input = true

-- what an input reads where nothing is attached to it
abbrev pub loose_of : Cell → ℕ → Loose
loose_of Not input = loose.Unknown
loose_of And input = loose.Ignored
loose_of Or input = loose.Ignored

-- the name of an input port
abbrev pub input_name : Cell → ℕ → List ℕ
input_name Not input = codes "in"
input_name And input = codes "in" ++ decimal input
input_name Or input = codes "in" ++ decimal input
