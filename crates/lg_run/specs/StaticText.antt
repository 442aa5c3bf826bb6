-- What an exported module prints on rows: the static rows of the drawing.
use Rattle.std.specs.Prelude.{◌≡◌, ℕ, List, length, All}
use Rattle.std.specs.List.{AllByRecursion, AllZip}
use Rattle.lg_export.specs.Agreement.{Rows, numbers_of}
use Rattle.lg_export.specs.Layout.{module_of}
use Rattle.lg_value.specs.Word.{IsDefined}
use Rattle.lg_netlist.specs.declared.netlist.Netlist.{Netlist}
use Rattle.lg_netlist.specs.Static as static
use Rattle.lg_netlist.specs.Static.{start_states, AreStaticRows}
use Rattle.lg_vrows.specs.Rows.{AreBoundRows, AreInputs, IsDefinedRow, input_pins}
use Rattle.lg_vrows.specs.Text.{rows_text}

-- The text is that of static rows of the netlist: bytes say rows for the inputs of its module, defined in every bit; these are
-- the numbers of words for its input pins; and the text shows the numbers of the words, defined in every bit, that
-- its output pins have row by row.
pub record IsStaticText (n : Netlist) (bytes text : List ℕ) : Type 0 where
  pub given : AreBoundRows (module_of n) bytes
  pub defined : All IsDefinedRow given.rows
  pub rows : Rows
  pub are_rows : AllByRecursion (static.IsDefinedRow (static.input_pins n)) rows
  pub are_inputs : AllZip (AreInputs (length (input_pins (module_of n))) given.indexes) given.rows (numbers_of rows)
  pub outs : Rows
  pub static_rows : AreStaticRows n (start_states n) rows outs
  pub outs_defined : AllByRecursion (AllByRecursion IsDefined) outs
  pub printed : text ≡ rows_text (module_of n) (numbers_of outs)
