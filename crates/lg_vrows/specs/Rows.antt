-- Rows for a module: its inputs as pins, and the numbers that the rows of a vector give them.
-- Source: the Logisim-evolution user guide, Test Vector: columns are named after pins.
use Rattle.std.specs.Prelude.{◌≡◌, ℕ, ◌+◌, ◌≤◌, true, List, [], ◌∷◌, ◌++◌, map, length, drop, slice_get, Some, All}
use Rattle.std.specs.List.{AllZip}
use Rattle.lg_value.specs.declared.bit.Bit.TheVariants.{One}
use Rattle.lg_value.specs.Word.{number_of}
use Rattle.lg_vectors.specs.declared.column.Column.{Column}
use Rattle.lg_vectors.specs.declared.pin.PinShape.{PinShape}
use Rattle.lg_vectors.specs.CaredBits.{CaredBits}
use Rattle.lg_vectors.specs.Binding.{AreBound, HaveColumns}
use Rattle.lg_vectors.specs.VectorText.{IsVectorText}
use Rattle.lg_vtree.specs.declared.module.Module.{Module}
use Rattle.lg_vrules.specs.Things.{lines_of, is_input}
use Rattle.lg_vmeaning.specs.Rows.{start, AreRows as AreOutputs}

-- the name of a port without its `i_` or `o_`
abbrev pub plain : List ℕ → List ℕ
plain name = drop 2 name

abbrev pub input_pin : List ℕ × ℕ → PinShape
input_pin l = record { name = plain l.0; width = l.1; input = true }

-- the inputs of a module but the clock, as pins
abbrev pub input_pins : Module → List PinShape
input_pins m = map input_pin (lines_of is_input m)

-- each bit of the value is cared for
abbrev pub IsWhole : CaredBits → Type 0
IsWhole value = All (λ bit. bit ≡ One) value.care

-- each value of the row is
abbrev pub IsDefinedRow : List CaredBits → Type 0
IsDefinedRow row = All IsWhole row

-- the first row, counted from 1, with a bit that is not cared for
pub record IsFirstUndefined (rows : List (List CaredBits)) (number : ℕ) : Type 0 where
  pub before : List (List CaredBits)
  pub row : List CaredBits
  pub after : List (List CaredBits)
  pub parts : rows ≡ before ++ row ∷ after
  pub counted : number ≡ length before + 1
  pub defined : All IsDefinedRow before
  pub undefined : IsDefinedRow row → ⊥

-- a number for each of so many inputs: the input at the index of a column has the number of the column's value
pub record AreInputs (inputs : ℕ) (indexes : List ℕ) (row : List CaredBits) (numbers : List ℕ) : Type 0 where
  pub count : length numbers ≡ inputs
  pub each : (column index : ℕ) (value : CaredBits) → slice_get indexes column ≡ Some index → slice_get row column ≡ Some value
      → slice_get numbers index ≡ Some (number_of value.bits)

-- bytes are a vector whose columns are bound to the inputs of a module
pub record AreBoundRows (m : Module) (bytes : List ℕ) : Type 0 where
  pub columns : List Column
  pub rows : List (List CaredBits)
  pub says : IsVectorText bytes columns rows
  pub few : length rows ≤ 65536
  pub indexes : List ℕ
  pub bound : AreBound [] (input_pins m) columns indexes
  pub whole : HaveColumns columns (input_pins m)

-- bytes are rows of defined numbers for the inputs of a module, and these are its outputs on them
pub record AreOutputsOf (m : Module) (bytes : List ℕ) (outs : List (List ℕ)) : Type 0 where
  pub given : AreBoundRows m bytes
  pub defined : All IsDefinedRow given.rows
  pub inputs : List (List ℕ)
  pub are_inputs : AllZip (AreInputs (length (input_pins m)) given.indexes) given.rows inputs
  pub outputs : AreOutputs m (start m) inputs outs
