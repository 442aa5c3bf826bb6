-- The exported module agrees with the netlist: it is valid, and for each list of rows of defined inputs its outputs are those
-- of the static rows.
use Rattle.std.specs.Prelude.{ℕ, List, map}
use Rattle.std.specs.List.{AllByRecursion}
use Rattle.lg_value.specs.declared.bit.Bit.{Bit}
use Rattle.lg_value.specs.Word.{IsDefined, number_of}
use Rattle.lg_netlist.specs.declared.netlist.Netlist.{Netlist}
use Rattle.lg_netlist.specs.Static.{input_pins, start_states, AreStaticRows, IsDefinedRow}
use Rattle.lg_vtree.specs.declared.module.Module.{Module}
use Rattle.lg_vrules.specs.Things.{lines_of, is_input}
use Rattle.lg_vmachine.specs.Kept.{Kept}
use Rattle.lg_vresolve.specs.Meaning.{Valuation}
use Rattle.lg_vmeaning.specs.Rows.{start, AreRows}
use Rattle.lg_vmeaning.specs.Solution.{AreNumbers, IsOf, IsTheSolution}
use Rattle.lg_vmeaning.specs.Valid.{IsValid}

-- the words of each pin, row by row
abbrev pub Rows : Type 0
Rows = List (List (List Bit))

-- the numbers of words, row by row
abbrev pub numbers_of : Rows → List (List ℕ)
numbers_of rows = map (λ row. map number_of row) rows

-- the static rows of the netlist have outputs, all defined, and the module's outputs are their numbers
pub record AgreesOnRows (n : Netlist) (m : Module) (rows : Rows) : Type 0 where
  pub outputs : Rows
  pub static : AreStaticRows n (start_states n) rows outputs
  pub defined : AllByRecursion (AllByRecursion IsDefined) outputs
  pub same : AreRows m (start m) (numbers_of rows) (numbers_of outputs)

-- the module is valid, has one solution for all registers, memories and inputs, and agrees on each list of rows of defined inputs
pub record Agrees (n : Netlist) (m : Module) : Type 0 where
  pub valid : IsValid m
  pub one_solution : (kept : Kept) (row : List ℕ) → IsOf m kept → AreNumbers (lines_of is_input m) row → (value : Valuation) × IsTheSolution m kept row value
  pub rows : (rows : Rows) → AllByRecursion (IsDefinedRow (input_pins n)) rows → AgreesOnRows n m rows
