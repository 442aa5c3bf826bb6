-- What the steps of a command answer, by what is due.
use Rattle.std.specs.Prelude.{◌≡◌, ℕ, ◌<◌, ◌≤◌, List, length, Option, Result, Ok, Err, Vec}
use Rattle.std.specs.declared.alloc.Global.{Global}
use Rattle.lg_io.specs.Fault.{HasRisen}
use Rattle.lg_io.specs.Files.{Seen}
use Rattle.lg_run.specs.declared.status.Status.TheVariants.{Done}
use Rattle.lg_run.specs.declared.stop.Refusal.TheVariants.{TooLong}
use Rattle.lg_run.specs.declared.stop.Stop.{Stop}
use Rattle.lg_run.specs.declared.stop.Stop.TheVariants as stop
use Rattle.lg_run.specs.declared.stop.Stopped.{Stopped}
use Rattle.lg_run.specs.Contents.{Held}
use Rattle.lg_run.specs.Due.{Writes, Stops, project_length, IsAgreedText, IsNoModule, IsCommandDue, AgreesFor, Reads}
use Rattle.lg_run.specs.Words.{Command}

-- why some bytes make no text of a module; of want of memory nothing is said
pub data IsUnmade (bytes : List ℕ) (why : Stop) : Type 0 where
  Long : project_length < length bytes → why ≡ stop.Input TooLong → IsUnmade bytes why
  NoText : length bytes ≤ project_length → IsNoModule bytes why → IsUnmade bytes why
  NoMemory : why ≡ stop.Memory → IsUnmade bytes why

-- the text of the module of some bytes, or why there is none
abbrev pub Makes : List ℕ → Result (Vec ℕ Global) Stop → Type 0
Makes bytes (Ok text) = (length bytes ≤ project_length) × IsAgreedText bytes text.items
Makes bytes (Err why) = IsUnmade bytes why

-- a stop is due; a fault of reading comes only where its count rose, and of want of memory nothing is said
abbrev pub StopsRightly : Seen → Seen → (Stop → Type 0) → Stop → Type 0
StopsRightly before after is_due (stop.Input refusal) = is_due (stop.Input refusal)
StopsRightly before after is_due (stop.NotAccepted reason) = is_due (stop.NotAccepted reason)
StopsRightly before after is_due stop.ReadFault = HasRisen before.faults after.faults
StopsRightly before after is_due stop.Memory = Unit {0}
StopsRightly before after is_due stop.Usage = ⊥
StopsRightly before after is_due stop.WriteFault = ⊥

-- a read fault is told of a file that the command reads
abbrev pub FailsRightly : Option Held → Command → List ℕ → Stop → Type 0
FailsRightly told c file stop.ReadFault = Reads c told file
FailsRightly told c file _ = Unit {0}

-- the text that is due for a command, or the stop that is due, about its file
abbrev pub Answers : Seen → Seen → Command → Result (Vec ℕ Global) Stopped → Type 0
Answers before after c (Ok text) = IsCommandDue c before.held (Writes Done text.items) × AgreesFor c before.held text.items
Answers before after c (Err s) = StopsRightly before after (λ why. IsCommandDue c before.held (Stops why s.file.now)) s.stop × FailsRightly before.held c s.file.now s.stop
