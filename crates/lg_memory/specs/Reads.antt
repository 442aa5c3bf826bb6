-- Which inputs the outputs read at once, without a step. Source: the library reference of Logisim-evolution, Memory
-- Library; the inputs and outputs stand in the order of the kind's ports.
use Rattle.std.specs.Prelude.{ℕ, Bool, false, ◌==◌, ◌&&◌}
use Rattle.lg_memory.specs.declared.form.StateForm.{StateForm}
use Rattle.lg_memory.specs.declared.form.StateForm.TheVariants.{Flip, Register, Counter, Shift, Rom, Ram}

-- whether an output reads an input: the carry of a counter reads `ud`, what a memory reads out goes by its address, and
-- the others show what is held and read none
abbrev pub reads : StateForm → ℕ → ℕ → Bool
reads (Flip kind trigger) output input = false
reads (Register width trigger) output input = false
reads (Counter width max goal trigger) output input = (output == 1) && (input == 2)
reads (Shift width stages parallel trigger) output input = false
reads (Rom address width words) output input = input == 0
reads (Ram address width trigger) output input = input == 0
