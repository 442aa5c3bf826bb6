-- The answer of each command from those of its steps.
use Rattle.std.proofs.Common.{◌≡◌, ℕ, ◌<◌, ◌≤◌, true, false, List, length, Option, Some, None, Ok, Err, Vec, Bor, Global, refl, sym, subst, arith, ◌⊎◌, inl, inr}
use Rattle.std.specs.Prelude.{nat_lt}
use Rattle.std.proofs.lemmas.Bool.{le-ltb, lt-ltb}
use Rattle.lg_io.specs.Fault.{HasRisen}
use Rattle.lg_io.specs.Files.{Seen}
use Rattle.lg_circ.specs.declared.read.TheConstants.{GREATEST_LENGTH}
use Rattle.lg_netlist.specs.declared.acceptance.NotAccepted.{NotAccepted}
use Rattle.lg_netlist.specs.declared.acceptance.NotAccepted.TheVariants.{ManyDrivers, Undriven, Cycle, Memory}
use Rattle.lg_vectors.specs.declared.fault.VectorFault.{VectorFault}
use Rattle.lg_vectors.specs.declared.fault.VectorFault.TheVariants as vector
use Rattle.lg_vtree.specs.declared.module.Module.{Module}
use Rattle.lg_vrows.specs.Due.{IsValidText, IsModuleFault, IsRowsText, IsRowsFault}
use Rattle.lg_vrows.specs.declared.fault.ModuleFault.{ModuleFault}
use Rattle.lg_vrows.specs.declared.fault.ModuleFault.TheVariants as module_fault
use Rattle.lg_vrows.specs.declared.fault.RowsFault.{RowsFault}
use Rattle.lg_vrows.specs.declared.fault.RowsFault.TheVariants as rows_fault
use Rattle.lg_run.specs.declared.status.Status.TheVariants as status
use Rattle.lg_run.specs.declared.stop.Refusal.TheVariants as refusal
use Rattle.lg_run.specs.declared.stop.Stop.{Stop}
use Rattle.lg_run.specs.declared.stop.Stop.TheVariants as stop
use Rattle.lg_run.specs.declared.stop.Stopped.{Stopped}
use Rattle.lg_run.specs.declared.vrun.TheConstants.{MODULE_LENGTH, ROWS_LENGTH}
use Rattle.lg_run.specs.Answered.{StopsRightly, IsUnmade, NoText, Makes, FailsRightly, Answers}
use Rattle.lg_run.specs.Answered as answered
use Rattle.lg_run.specs.Contents.{Held, Finds, IsUnread, NoFile, Fault}
use Rattle.lg_run.specs.Contents as contents
use Rattle.lg_run.specs.Due.{Due, Writes, Stops, IsNoModule, Deep, NoProject, Unbuilt, Unaccepted, IsModuleDue, IsExportDue, IsOutputsDue, IsRowsDue, IsValidDue, OnModule, NoModule, IsVrunDue, IsCommandDue, Reads}
use Rattle.lg_run.specs.Stops.{IsDeserved, not_accepted_stop, module_stop, vector_stop, rows_stop}
use Rattle.lg_run.specs.Words.{Command, Export, Vrun}
use Rattle.lg_run.proofs.Reading.{something}

-- ---- stops

-- a stop about a file that the command reads
reads_rightly : (told : Option Held) (c : Command) (file : List ℕ) (why : Stop) → Reads c told file → FailsRightly told c file why
reads_rightly told c file stop.ReadFault reads = reads
reads_rightly told c file (stop.Input refusal) reads = tt
reads_rightly told c file (stop.NotAccepted reason) reads = tt
reads_rightly told c file stop.Memory reads = tt
reads_rightly told c file stop.Usage reads = tt
reads_rightly told c file stop.WriteFault reads = tt

-- the answer of a command that stops
stopped : (before after : Seen) (c : Command) (file : List ℕ) (s : Stopped) → s.file.now ≡ file → Reads c before.held file → StopsRightly before after (λ why. IsCommandDue c before.held (Stops why file)) s.stop → Answers before after c (Err s)
stopped before after c file s about reads stops = (
  subst (λ (f : List ℕ). StopsRightly before after (λ why. IsCommandDue c before.held (Stops why f)) s.stop) (sym about) stops,
  reads_rightly before.held c s.file.now s.stop (subst (Reads c before.held) (sym about) reads),
)

-- a file that is not there or too long is told where that is due
of_unread : (before after : Seen) (file : List ℕ) (most : ℕ) (IsDue : Stop → Type 0) → (Finds before.held file None → IsDue (stop.Input refusal.Missing))
    → ((bytes : List ℕ) → Finds before.held file (Some bytes) → most < length bytes → IsDue (stop.Input refusal.TooLong)) → (why : Stop) → IsUnread before after file most why
    → StopsRightly before after IsDue why
of_unread before after file most IsDue missing long why (NoFile none e) = rw e (missing none)
of_unread before after file most IsDue missing long why (contents.Long bytes finds past e) = rw e (long bytes finds past)
of_unread before after file most IsDue missing long why (Fault risen e) = rw e risen
of_unread before after file most IsDue missing long why (contents.NoMemory e) = rw e tt

-- a stop that is deserved or for want of memory
of_fault : (before after : Seen) (IsDue : Stop → Type 0) (why : Stop) → IsDeserved why ⊎ (why ≡ stop.Memory) → (IsDeserved why → IsDue why) → StopsRightly before after IsDue why
of_fault before after IsDue (stop.Input refusal) kind due = due tt
of_fault before after IsDue (stop.NotAccepted condition) kind due = due tt
of_fault before after IsDue stop.Memory kind due = tt
of_fault before after IsDue stop.Usage (inl never) due = absurd never
of_fault before after IsDue stop.Usage (inr e) due = absurd cc
of_fault before after IsDue stop.ReadFault (inl never) due = absurd never
of_fault before after IsDue stop.ReadFault (inr e) due = absurd cc
of_fault before after IsDue stop.WriteFault (inl never) due = absurd never
of_fault before after IsDue stop.WriteFault (inr e) due = absurd cc

of_module_fault : (fault : ModuleFault) → IsDeserved (module_stop fault) ⊎ (module_stop fault ≡ stop.Memory)
of_module_fault module_fault.NotSubset = inl tt
of_module_fault (module_fault.NotValid rule) = inl tt
of_module_fault (module_fault.Cyclic wire) = inl tt
of_module_fault module_fault.Memory = inr refl

of_vector_fault : (fault : VectorFault) → IsDeserved (vector_stop fault) ⊎ (vector_stop fault ≡ stop.Memory)
of_vector_fault (vector.NotVector line) = inl tt
of_vector_fault (vector.NoPin name) = inl tt
of_vector_fault (vector.PinWidth name) = inl tt
of_vector_fault (vector.PinClash name) = inl tt
of_vector_fault vector.TooManyRows = inl tt
of_vector_fault (vector.MissingPin name) = inl tt
of_vector_fault vector.Memory = inr refl

of_rows_fault : (fault : RowsFault) → IsDeserved (rows_stop fault) ⊎ (rows_stop fault ≡ stop.Memory)
of_rows_fault (rows_fault.Vector fault) = of_vector_fault fault
of_rows_fault (rows_fault.Undefined row) = inl tt
of_rows_fault rows_fault.Memory = inr refl

-- a stop after a part of the run is one after all of it
over_both : (before middle after : Seen) (IsDue : Stop → Type 0) (why : Stop) → before.faults ≤ middle.faults → StopsRightly middle after IsDue why → StopsRightly before after IsDue why
over_both before middle after IsDue (stop.Input refusal) low is = is
over_both before middle after IsDue (stop.NotAccepted condition) low is = is
over_both before middle after IsDue stop.ReadFault low is = omega (arith, low, is)
over_both before middle after IsDue stop.Memory low is = tt
over_both before middle after IsDue stop.Usage low is = is
over_both before middle after IsDue stop.WriteFault low is = is

-- ---- `export`

-- bytes within the limit are judged by what they say
within_project : (file bytes : List ℕ) (due : Due) → length bytes ≤ GREATEST_LENGTH → IsModuleDue file bytes due → IsExportDue file (Some bytes) due
within_project file bytes due fits h = let low : nat_lt GREATEST_LENGTH (length bytes) ≡ false = le-ltb GREATEST_LENGTH (length bytes) fits in rw low h

past_project : (file bytes : List ℕ) → GREATEST_LENGTH < length bytes → IsExportDue file (Some bytes) (Stops (stop.Input refusal.TooLong) file)
past_project file bytes long = let high : nat_lt GREATEST_LENGTH (length bytes) ≡ true = lt-ltb GREATEST_LENGTH (length bytes) long in rw high refl

pub export_unread : (before after : Seen) (file : List ℕ) (s : Stopped) → s.file.now ≡ file → IsUnread before after file GREATEST_LENGTH s.stop → Answers before after (Export file) (Err s)
export_unread before after file s about is =
    stopped before after (Export file) file s about refl
    (of_unread before after file GREATEST_LENGTH (λ why. IsCommandDue (Export file) before.held (Stops why file)) (λ none. (None, none, refl)) (λ bytes finds long. (Some bytes, finds, past_project file bytes long)) s.stop is)

pub export_text : (before after : Seen) (file bytes : List ℕ) (text : Vec ℕ Global) → Finds before.held file (Some bytes) → Makes bytes (Ok text) → Answers before after (Export file) (Ok text)
export_text before after file bytes text finds (fits, t) =
    ((Some bytes, finds, within_project file bytes (Writes status.Done text.items) fits (refl, t.made)), (bytes, finds, fits, t))

of_refusal : (fault : NotAccepted) → IsDeserved (not_accepted_stop fault) ⊎ (not_accepted_stop fault ≡ stop.Memory)
of_refusal (ManyDrivers net first second) = inl tt
of_refusal (Undriven part port) = inl tt
of_refusal (Cycle part) = inl tt
of_refusal Memory = inr refl

of_no_module : (bytes : List ℕ) (why : Stop) → IsNoModule bytes why → IsDeserved why ⊎ (why ≡ stop.Memory)
of_no_module bytes why (Deep is e) = rw e (inl tt)
of_no_module bytes why (NoProject is e) = rw e (inl tt)
of_no_module bytes why (Unbuilt project says none e) = rw e (inl tt)
of_no_module bytes why (Unaccepted fault refused e) = rw e (of_refusal fault)

pub export_stop : (before after : Seen) (file bytes : List ℕ) (s : Stopped) → Finds before.held file (Some bytes) → IsUnmade bytes s.stop → s.file.now ≡ file → Answers before after (Export file) (Err s)
export_stop before after file bytes s finds unmade about = stopped before after (Export file) file s about refl (by s.stop unmade)
  where
    by : (why : Stop) → IsUnmade bytes why → StopsRightly before after (λ why. IsCommandDue (Export file) before.held (Stops why file)) why
    by why (answered.Long past e) = rw e (Some bytes, finds, past_project file bytes past)
    by why (NoText fits none) =
        of_fault before after (λ why. IsCommandDue (Export file) before.held (Stops why file)) why (of_no_module bytes why none) (λ d. (Some bytes, finds, within_project file bytes (Stops why file) fits (none, refl)))
    by why (answered.NoMemory e) = rw e tt

-- ---- `vrun`

within_module : (of_module of_rows bytes : List ℕ) (rows : Option (List ℕ)) (due : Due) → length bytes ≤ MODULE_LENGTH → IsValidDue of_module of_rows bytes rows due → IsVrunDue of_module of_rows (Some bytes) rows due
within_module of_module of_rows bytes rows due fits h = let low : nat_lt MODULE_LENGTH (length bytes) ≡ false = le-ltb MODULE_LENGTH (length bytes) fits in rw low h

past_module : (of_module of_rows bytes : List ℕ) (rows : Option (List ℕ)) → MODULE_LENGTH < length bytes → IsVrunDue of_module of_rows (Some bytes) rows (Stops (stop.Input refusal.TooLong) of_module)
past_module of_module of_rows bytes rows long = let high : nat_lt MODULE_LENGTH (length bytes) ≡ true = lt-ltb MODULE_LENGTH (length bytes) long in rw high refl

pub within_rows : (m : Module) (file bytes : List ℕ) (due : Due) → length bytes ≤ ROWS_LENGTH → IsOutputsDue m file bytes due → IsRowsDue m file (Some bytes) due
within_rows m file bytes due fits h = let low : nat_lt ROWS_LENGTH (length bytes) ≡ false = le-ltb ROWS_LENGTH (length bytes) fits in rw low h

past_rows : (m : Module) (file bytes : List ℕ) → ROWS_LENGTH < length bytes → IsRowsDue m file (Some bytes) (Stops (stop.Input refusal.TooLong) file)
past_rows m file bytes long = let high : nat_lt ROWS_LENGTH (length bytes) ≡ true = lt-ltb ROWS_LENGTH (length bytes) long in rw high refl

-- a read of the file finds a text of the valid module, within the limit
pub record HasModule (told : Option Held) (file : List ℕ) (m : Module) : Type 0 where
  pub bytes : List ℕ
  pub finds : Finds told file (Some bytes)
  pub fits : length bytes ≤ MODULE_LENGTH
  pub valid : IsValidText bytes m

-- what is due for the rows of the module in a file is due for both files
pub on_module : (told : Option Held) (of_module of_rows : List ℕ) (m : Module) (rows : Option (List ℕ)) (due : Due) → HasModule told of_module m → Finds told of_rows rows → IsRowsDue m of_rows rows due
    → IsCommandDue (Vrun of_module of_rows) told due
on_module told of_module of_rows m rows due h finds_rows is = (Some h.bytes, rows, h.finds, finds_rows, within_module of_module of_rows h.bytes rows due h.fits (OnModule m h.valid is))

pub module_unread : (before after : Seen) (of_module of_rows : List ℕ) (s : Stopped) → s.file.now ≡ of_module → IsUnread before after of_module MODULE_LENGTH s.stop → Answers before after (Vrun of_module of_rows) (Err s)
module_unread before after of_module of_rows s about is =
    let rows = something before.held of_rows in
    stopped before after (Vrun of_module of_rows) of_module s about (inl refl)
    (of_unread before after of_module MODULE_LENGTH (λ why. IsCommandDue (Vrun of_module of_rows) before.held (Stops why of_module)) (λ none. (None, rows.0, none, rows.1, refl))
    (λ bytes finds long. (Some bytes, rows.0, finds, rows.1, past_module of_module of_rows bytes rows.0 long)) s.stop is)

pub module_refused : (before after : Seen) (of_module of_rows bytes : List ℕ) (fault : ModuleFault) (s : Stopped) → Finds before.held of_module (Some bytes) → length bytes ≤ MODULE_LENGTH → IsModuleFault bytes fault → s.stop ≡ module_stop fault
    → s.file.now ≡ of_module → Answers before after (Vrun of_module of_rows) (Err s)
module_refused before after of_module of_rows bytes fault s finds fits is same about =
    let rows = something before.held of_rows in
    let stops = of_fault before after (λ why. IsCommandDue (Vrun of_module of_rows) before.held (Stops why of_module)) (module_stop fault) (of_module_fault fault)
    (λ d. (Some bytes, rows.0, finds, rows.1, within_module of_module of_rows bytes rows.0 (Stops (module_stop fault) of_module) fits (NoModule fault is d refl))) in
    stopped before after (Vrun of_module of_rows) of_module s about (inl refl) (rw same stops)

module _ (before middle after : Seen) (same_held : middle.held ≡ before.held) (low : before.faults ≤ middle.faults) (of_module of_rows : List ℕ) (m : Module) (has : HasModule before.held of_module m) where
  abbrev IsDueOf : Stop → Type 0
  IsDueOf why = IsCommandDue (Vrun of_module of_rows) before.held (Stops why of_rows)

  found : (rows : Option (List ℕ)) → Finds middle.held of_rows rows → Finds before.held of_rows rows
  found rows finds = subst (λ (told : Option Held). Finds told of_rows rows) same_held finds

  reads_rows : Reads (Vrun of_module of_rows) before.held of_rows
  reads_rows = inr (refl, (has.bytes, m, has.finds, has.fits, has.valid))

  pub rows_unread : (s : Stopped) → s.file.now ≡ of_rows → IsUnread middle after of_rows ROWS_LENGTH s.stop → Answers before after (Vrun of_module of_rows) (Err s)
  rows_unread s about is =
      stopped before after (Vrun of_module of_rows) of_rows s about reads_rows
      (over_both before middle after IsDueOf s.stop low
      (of_unread middle after of_rows ROWS_LENGTH IsDueOf (λ none. on_module before.held of_module of_rows m None (Stops (stop.Input refusal.Missing) of_rows) has (found None none) refl)
      (λ bytes finds long. on_module before.held of_module of_rows m (Some bytes) (Stops (stop.Input refusal.TooLong) of_rows) has (found (Some bytes) finds) (past_rows m of_rows bytes long)) s.stop is))

  pub rows_refused : (bytes : List ℕ) (fault : RowsFault) (s : Stopped) → Finds middle.held of_rows (Some bytes) → length bytes ≤ ROWS_LENGTH → IsRowsFault m bytes fault → s.stop ≡ rows_stop fault → s.file.now ≡ of_rows
      → Answers before after (Vrun of_module of_rows) (Err s)
  rows_refused bytes fault s finds fits is same about =
      let stops = of_fault before after IsDueOf (rows_stop fault) (of_rows_fault fault)
      (λ d. on_module before.held of_module of_rows m (Some bytes) (Stops (rows_stop fault) of_rows) has (found (Some bytes) finds) (within_rows m of_rows bytes (Stops (rows_stop fault) of_rows) fits ((fault, is, d, refl), refl))) in
      stopped before after (Vrun of_module of_rows) of_rows s about reads_rows (rw same stops)

  pub rows_written : (bytes : List ℕ) (text : Vec ℕ Global) → Finds middle.held of_rows (Some bytes) → length bytes ≤ ROWS_LENGTH → IsRowsText m bytes text.items → Answers before after (Vrun of_module of_rows) (Ok text)
  rows_written bytes text finds fits is =
      (on_module before.held of_module of_rows m (Some bytes) (Writes status.Done text.items) has (found (Some bytes) finds) (within_rows m of_rows bytes (Writes status.Done text.items) fits (refl, is)), tt)
