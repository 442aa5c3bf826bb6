-- A valid module and rows that are bound and defined have a text that is due.
use Rattle.std.proofs.Common.{◌≡◌, ℕ, ◌≤◌, List, length, Option, Some, refl, sym, subst}
use Rattle.std.specs.Prelude.{All}
use Rattle.lg_vtree.specs.declared.module.Module.{Module}
use Rattle.lg_vrows.specs.Due.{IsValidText}
use Rattle.lg_vrows.specs.Rows.{AreBoundRows, IsDefinedRow}
use Rattle.lg_vrows.proofs.SomeText.{rows_exist}
use Rattle.lg_run.specs.declared.status.Status.TheVariants.{Done}
use Rattle.lg_run.specs.declared.vrun.TheConstants.{MODULE_LENGTH, ROWS_LENGTH}
use Rattle.lg_run.specs.Contents.{Held}
use Rattle.lg_run.specs.Due.{Writes, IsDueFor, IsDue}
use Rattle.lg_run.specs.Words.{Command, Vrun, command_of}
use Rattle.lg_run.proofs.Answering.{on_module, within_rows}

pub due_rows : (words : List (List ℕ)) (held : Held) (of_module of_rows module_bytes rows_bytes : List ℕ) (m : Module) → command_of words ≡ Some (Vrun of_module of_rows) → held of_module ≡ Some module_bytes
    → length module_bytes ≤ MODULE_LENGTH → IsValidText module_bytes m → held of_rows ≡ Some rows_bytes → length rows_bytes ≤ ROWS_LENGTH → (given : AreBoundRows m rows_bytes) → All IsDefinedRow given.rows
    → (text : List ℕ) × IsDue words (Some held) (Writes Done text)
due_rows words held of_module of_rows module_bytes rows_bytes m asked has_module module_fits valid has_rows rows_fit given defined =
    let found = rows_exist m valid.valid rows_bytes given defined in
    let due = within_rows m of_rows rows_bytes (Writes Done found.0) rows_fit (refl, found.1) in
    let for_both = on_module (Some held) of_module of_rows m (Some rows_bytes) (Writes Done found.0) (record { bytes = module_bytes; finds = has_module; fits = module_fits; valid = valid }) has_rows due in
    (found.0, subst (λ (c : Option Command). IsDueFor c (Some held) (Writes Done found.0)) (sym asked) for_both)
