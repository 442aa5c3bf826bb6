-- The module of a text, and the text of rows on a module; or why there is none.
use Rattle.std.specs.Prelude.{◌≡◌, ◌≢◌, ℕ, ◌≤◌, ◌⊎◌, List, length}
use Rattle.lg_vectors.specs.declared.fault.VectorFault.{VectorFault}
use Rattle.lg_vectors.specs.declared.fault.VectorFault.TheVariants as vector
use Rattle.lg_vectors.specs.declared.column.Column.{Column}
use Rattle.lg_vectors.specs.CaredBits.{CaredBits}
use Rattle.lg_vectors.specs.ReadFault.{IsReadFault}
use Rattle.lg_vectors.specs.Binding.{IsBindFault, IsMissing}
use Rattle.lg_vectors.specs.VectorText.{IsVectorText}
use Rattle.lg_vtree.specs.declared.module.Module.{Module}
use Rattle.lg_vread.specs.Limits.{IsWithinLimits}
use Rattle.lg_vmeaning.specs.declared.validity.MeanFault.{MeanFault}
use Rattle.lg_vmeaning.specs.declared.validity.MeanFault.TheVariants as mean
use Rattle.lg_vmeaning.specs.Valid.{IsValid, IsInvalid}
use Rattle.lg_vrows.specs.Rows.{AreBoundRows, AreOutputsOf, IsFirstUndefined, input_pins}
use Rattle.lg_vrows.specs.Text.{rows_text}
use Rattle.lg_vrows.specs.declared.fault.ModuleFault.{ModuleFault}
use Rattle.lg_vrows.specs.declared.fault.ModuleFault.TheVariants as module_fault
use Rattle.lg_vrows.specs.declared.fault.RowsFault.{RowsFault}
use Rattle.lg_vrows.specs.declared.fault.RowsFault.TheVariants as rows_fault

-- bytes are a text of a valid module within the limits
pub record IsValidText (bytes : List ℕ) (m : Module) : Type 0 where
  pub within : IsWithinLimits bytes m
  pub valid : IsValid m

-- bytes are a text of a module within the limits that is not valid for this reason
pub record IsInvalidText (bytes : List ℕ) (fault : MeanFault) : Type 0 where
  pub tree : Module
  pub within : IsWithinLimits bytes tree
  pub invalid : IsInvalid tree fault

-- why bytes give no valid module; of want of memory nothing is said
abbrev pub IsModuleFault : List ℕ → ModuleFault → Type 0
IsModuleFault bytes module_fault.NotSubset = (tree : Module) → IsWithinLimits bytes tree → ⊥
IsModuleFault bytes (module_fault.NotValid rule) = IsInvalidText bytes (mean.NotValid rule)
IsModuleFault bytes (module_fault.Cyclic wire) = IsInvalidText bytes (mean.Cyclic wire)
IsModuleFault bytes module_fault.Memory = Unit {0}

-- the text is that of the outputs of a module on the rows that bytes say
abbrev pub IsRowsText : Module → List ℕ → List ℕ → Type 0
IsRowsText m bytes text = (outs : List (List ℕ)) × AreOutputsOf m bytes outs × (text ≡ rows_text m outs)

-- bytes are a vector whose columns are not bound to the inputs of a module, for this reason
pub record IsUnbound (m : Module) (bytes : List ℕ) (fault : VectorFault) : Type 0 where
  pub columns : List Column
  pub rows : List (List CaredBits)
  pub says : IsVectorText bytes columns rows
  pub few : length rows ≤ 65536
  pub reason : IsBindFault (input_pins m) columns fault ⊎ IsMissing (input_pins m) columns fault

-- why bytes are no rows for a module: the first of these that holds; of want of memory nothing is said
abbrev pub IsRowsFault : Module → List ℕ → RowsFault → Type 0
IsRowsFault m bytes (rows_fault.Vector fault) = (fault ≢ vector.Memory) × (IsReadFault 65536 bytes fault ⊎ IsUnbound m bytes fault)
IsRowsFault m bytes (rows_fault.Undefined row) = (given : AreBoundRows m bytes) × IsFirstUndefined given.rows row
IsRowsFault m bytes rows_fault.Memory = Unit {0}
