-- What is due for some words and some files: a text with its status, or the first stop in the order of the verb's steps.
use Rattle.std.specs.Prelude.{◌≡◌, ℕ, ◌≤◌, List, [], length, Option, Some, None, nat_lt, MatchBool, ◌⊎◌}
use Rattle.lg_run.specs.declared.status.Status.{Status}
use Rattle.lg_run.specs.declared.status.Status.TheVariants.{Done}
use Rattle.lg_run.specs.declared.stop.Refusal.TheVariants.{Missing, TooLong, TooDeep, NotProject, NotBuilt}
use Rattle.lg_run.specs.declared.stop.Stop.{Stop}
use Rattle.lg_run.specs.declared.stop.Stop.TheVariants.{Usage, Input}
use Rattle.lg_circ.specs.declared.project.Project.{Project}
use Rattle.lg_circ.specs.Project.{SaysProject, IsTooDeep, IsNoProject}
use Rattle.lg_export.specs.Agreement.{Agrees}
use Rattle.lg_export.specs.InTime.{AgreesInTime}
use Rattle.lg_export.specs.Layout.{module_of}
use Rattle.lg_netlist.specs.declared.acceptance.NotAccepted.{NotAccepted as Refused}
use Rattle.lg_netlist.specs.declared.netlist.Netlist.{Netlist}
use Rattle.lg_netlist.specs.Acceptance.{IsAccepted, IsRefused}
use Rattle.lg_vtree.specs.Grammar.{IsModuleText as IsTextOf}
use Rattle.lg_vtree.specs.Printed.{module_text}
use Rattle.lg_run.specs.Contents.{Held, Finds}
use Rattle.lg_run.specs.Stops.{IsDeserved, not_accepted_stop, module_stop, rows_stop}
use Rattle.lg_run.specs.OneSheet.{IsBuilt, IsNotBuilt}
use Rattle.lg_run.specs.Words.{Command, Export, Vrun, command_of}
use Rattle.lg_vtree.specs.declared.module.Module.{Module}
use Rattle.lg_vrows.specs.Due.{IsValidText, IsModuleFault, IsRowsText, IsRowsFault}
use Rattle.lg_vrows.specs.declared.fault.ModuleFault.{ModuleFault}
use Rattle.lg_vrows.specs.declared.fault.RowsFault.{RowsFault}

-- how many bytes a file has at most: one with a project, one with a module, and one with rows
abbrev pub project_length : ℕ
project_length = 8388608

abbrev pub module_length : ℕ
module_length = 134217728

abbrev pub rows_length : ℕ
rows_length = 16777216

-- a text for the output with the status after it, or the stop that the run ends with, about a file
pub data Due : Type 0 where
  Writes : (status : Status) → (text : List ℕ) → Due
  Stops : (stop : Stop) → (file : List ℕ) → Due

-- the bytes say a project with a circuit that is built, its netlist is accepted, and this is the text of its module
pub record IsExportText (bytes text : List ℕ) : Type 0 where
  pub project : Project
  pub netlist : Netlist
  pub says : SaysProject bytes project
  pub built : IsBuilt project netlist
  pub accepted : IsAccepted netlist
  pub printed : text ≡ module_text (module_of netlist)

-- the bytes say a project with a circuit that is built, and its netlist is refused for this reason
pub record IsRefusedText (bytes : List ℕ) (reason : Refused) : Type 0 where
  pub project : Project
  pub netlist : Netlist
  pub says : SaysProject bytes project
  pub built : IsBuilt project netlist
  pub refused : IsRefused netlist reason

-- the text is that of a valid module which agrees with the netlist of the project in the bytes, without time and in time
pub record IsAgreedText (bytes text : List ℕ) : Type 0 where
  pub made : IsExportText bytes text
  -- no other text is that of the bytes' module
  pub only : (other : List ℕ) → IsExportText bytes other → other ≡ text
  -- the text is one of the module in the grammar of modules
  pub in_grammar : IsTextOf text (module_of made.netlist)
  pub agrees : Agrees made.netlist (module_of made.netlist)
  -- at each limit that the longest delay keeps to, so at the project's where it does
  pub in_time : AgreesInTime made.netlist (module_of made.netlist)

-- why bytes have no text of a module: they are too deep, or say no project, or one with a circuit that is not built or whose
-- netlist is refused
pub data IsNoModule (bytes : List ℕ) (stop : Stop) : Type 0 where
  Deep : IsTooDeep bytes → stop ≡ Input TooDeep → IsNoModule bytes stop
  NoProject : IsNoProject bytes → stop ≡ Input NotProject → IsNoModule bytes stop
  Unbuilt : (project : Project) → SaysProject bytes project → IsNotBuilt project → stop ≡ Input NotBuilt → IsNoModule bytes stop
  Unaccepted : (fault : Refused) → IsRefusedText bytes fault → stop ≡ not_accepted_stop fault → IsNoModule bytes stop

-- the text of the module, or why there is none
abbrev pub IsModuleDue : List ℕ → List ℕ → Due → Type 0
IsModuleDue file bytes (Writes status text) = (status ≡ Done) × IsExportText bytes text
IsModuleDue file bytes (Stops stop about) = IsNoModule bytes stop × (about ≡ file)

-- TooLong before all that the bytes say
abbrev pub IsExportDue : List ℕ → Option (List ℕ) → Due → Type 0
IsExportDue file None due = due ≡ Stops (Input Missing) file
IsExportDue file (Some bytes) due =
    MatchBool (nat_lt project_length (length bytes)) (due ≡ Stops (Input TooLong) file) (IsModuleDue file bytes due)

-- the text of the outputs of a module on the rows in a file, or why there is none
abbrev pub IsOutputsDue : Module → List ℕ → List ℕ → Due → Type 0
IsOutputsDue m file bytes (Writes status text) = (status ≡ Done) × IsRowsText m bytes text
IsOutputsDue m file bytes (Stops stop about) =
    ((fault : RowsFault) × IsRowsFault m bytes fault × IsDeserved (rows_stop fault) × (stop ≡ rows_stop fault)) × (about ≡ file)

-- of the file of rows, by what it holds
abbrev pub IsRowsDue : Module → List ℕ → Option (List ℕ) → Due → Type 0
IsRowsDue m file None due = due ≡ Stops (Input Missing) file
IsRowsDue m file (Some bytes) due = MatchBool (nat_lt rows_length (length bytes)) (due ≡ Stops (Input TooLong) file) (IsOutputsDue m file bytes due)

-- what is due of the rows on the valid module of some bytes, or of bytes that are none
pub data IsValidDue (of_module of_rows bytes : List ℕ) (rows : Option (List ℕ)) (due : Due) : Type 0 where
  OnModule : (m : Module) → IsValidText bytes m → IsRowsDue m of_rows rows due → IsValidDue of_module of_rows bytes rows due
  NoModule : (fault : ModuleFault) → IsModuleFault bytes fault → IsDeserved (module_stop fault) → due ≡ Stops (module_stop fault) of_module
      → IsValidDue of_module of_rows bytes rows due

-- the module comes before the rows
abbrev pub IsVrunDue : List ℕ → List ℕ → Option (List ℕ) → Option (List ℕ) → Due → Type 0
IsVrunDue of_module of_rows None rows due = due ≡ Stops (Input Missing) of_module
IsVrunDue of_module of_rows (Some bytes) rows due =
    MatchBool (nat_lt module_length (length bytes)) (due ≡ Stops (Input TooLong) of_module) (IsValidDue of_module of_rows bytes rows due)

-- a case for each command, by what its reads find
abbrev pub IsCommandDue : Command → Option Held → Due → Type 0
IsCommandDue (Export file) told due = (found : Option (List ℕ)) × Finds told file found × IsExportDue file found due
IsCommandDue (Vrun of_module of_rows) told due =
    (found : Option (List ℕ)) × (rows : Option (List ℕ)) × Finds told of_module found × Finds told of_rows rows × IsVrunDue of_module of_rows found rows due

-- what else holds of the text of a command: of an export, that its module agrees with the netlist of the project that a read
-- of the file finds, within the limit
abbrev pub AgreesFor : Command → Option Held → List ℕ → Type 0
AgreesFor (Export file) told text = (bytes : List ℕ) × Finds told file (Some bytes) × (length bytes ≤ project_length) × IsAgreedText bytes text
AgreesFor (Vrun of_module of_rows) told text = Unit {0}

-- the command reads the file: the rows only after a valid module
abbrev pub Reads : Command → Option Held → List ℕ → Type 0
Reads (Export file) told about = about ≡ file
Reads (Vrun of_module of_rows) told about =
    (about ≡ of_module)
    ⊎ ((about ≡ of_rows) × ((bytes : List ℕ) × (m : Module) × Finds told of_module (Some bytes) × (length bytes ≤ module_length) × IsValidText bytes m))

-- words that are no command are told how commands are written
abbrev pub IsDueFor : Option Command → Option Held → Due → Type 0
IsDueFor None told due = due ≡ Stops Usage []
IsDueFor (Some c) told due = IsCommandDue c told due

-- this is due for the words, for the contents that the files hold, where they tell them, and else for some
abbrev pub IsDue : List (List ℕ) → Option Held → Due → Type 0
IsDue words told due = IsDueFor (command_of words) told due
