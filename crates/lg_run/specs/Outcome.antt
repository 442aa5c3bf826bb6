-- What a run leaves: its status, what the output took, and its line.
use Rattle.std.specs.Prelude.{◌≡◌, ℕ, List, [], Option, Some, ◌⊎◌}
use Rattle.lg_io.specs.Fault.{HasRisen}
use Rattle.lg_io.specs.Files as files
use Rattle.lg_io.specs.Sink.{Seen, Took, TookPrefix, Said}
use Rattle.lg_run.specs.declared.status.Status.{Status}
use Rattle.lg_run.specs.declared.status.Status.TheVariants as status
use Rattle.lg_run.specs.declared.stop.Stop.{Stop}
use Rattle.lg_run.specs.declared.stop.Stop.TheVariants as stop
use Rattle.lg_run.specs.Contents.{Held}
use Rattle.lg_run.specs.Due.{Due, Writes, Stops, IsDue, AgreesFor, Reads}
use Rattle.lg_run.specs.Lines.{status_of, line_of}
use Rattle.lg_run.specs.Words.{Command, command_of}

-- the exit status
abbrev pub code_of : Status → ℕ
code_of status.Done = 0
code_of status.Usage = 2
code_of status.Input = 3
code_of status.NotAccepted = 4
code_of status.ReadFault = 5
code_of status.WriteFault = 6
code_of status.Memory = 9

-- the text that is due with this status was taken, all of it
pub record WroteDue (words : List (List ℕ)) (told : Option Held) (status : Status) (before after : Seen) : Type 0 where
  pub text : List ℕ
  pub due : IsDue words told (Writes status text)
  pub took : Took before after text

-- a prefix of the due text was taken
pub record WrotePrefix (words : List (List ℕ)) (told : Option Held) (before after : Seen) : Type 0 where
  pub status : Status
  pub text : List ℕ
  pub due : IsDue words told (Writes status text)
  pub took : TookPrefix before after text

-- the text that was taken is one for which holds what does for the command
pub record WroteAgreed (c : Command) (told : Option Held) (before after : Seen) : Type 0 where
  pub text : List ℕ
  pub agrees : AgreesFor c told text
  pub took : Took before after text

-- so it is for the command that the words ask for
abbrev pub AgreesAsAsked : List (List ℕ) → Option Held → Seen → Seen → Type 0
AgreesAsAsked words told before after = (c : Command) → command_of words ≡ Some c → WroteAgreed c told before after

-- how a write of the text that was asked for ended: all of it was taken, or a prefix of it and the count rose
abbrev pub Ends : Status → Seen → Seen → List ℕ → Type 0
Ends status.Done before after text = Took before after text
Ends status.WriteFault before after text = TookPrefix before after text × HasRisen before.faults after.faults
Ends _ before after text = ⊥

-- after each status but 0 and 6 the output is as it was
abbrev pub KeepsOutput : {O : Type 0} → O → O → Status → Type 0
KeepsOutput before after status.Done = Unit {0}
KeepsOutput before after status.WriteFault = Unit {0}
KeepsOutput before after status.Usage = after ≡ before
KeepsOutput before after status.Input = after ≡ before
KeepsOutput before after status.NotAccepted = after ≡ before
KeepsOutput before after status.ReadFault = after ≡ before
KeepsOutput before after status.Memory = after ≡ before

-- the line is that of a stop which is due, and which has this status
pub record IsDueLine (words : List (List ℕ)) (told : Option Held) (status : Status) (line : List ℕ) : Type 0 where
  pub why : Stop
  pub file : List ℕ
  pub due : IsDue words told (Stops why file)
  pub of_status : status_of why ≡ status
  pub of_stop : line ≡ line_of why file

-- the line is that of a read fault, of a file that the command reads
pub record IsReadFaultLine (words : List (List ℕ)) (told : Option Held) (line : List ℕ) : Type 0 where
  pub command : Command
  pub file : List ℕ
  pub asked : command_of words ≡ Some command
  pub reads : Reads command told file
  pub of_stop : line ≡ line_of stop.ReadFault file

-- the line with which a run ends that has this status
abbrev pub IsLine : List (List ℕ) → Option Held → Status → List ℕ → Type 0
IsLine words told status.Done line = line ≡ []
IsLine words told status.Usage line = line ≡ line_of stop.Usage []
IsLine words told status.Input line = IsDueLine words told status.Input line
IsLine words told status.NotAccepted line = IsDueLine words told status.NotAccepted line
IsLine words told status.ReadFault line = IsReadFaultLine words told line
IsLine words told status.WriteFault line = line ≡ line_of stop.WriteFault []
IsLine words told status.Memory line = line ≡ line_of stop.Memory []

-- the line of the status was said
pub record SaidLine (words : List (List ℕ)) (told : Option Held) (status : Status) (before after : Seen) : Type 0 where
  pub line : List ℕ
  pub is_line : IsLine words told status line
  pub said : Said before after line

-- the status is the due one, or memory ran out, or a count rose
abbrev pub Follows : Due → Status → files.Seen → files.Seen → Seen → Seen → Type 0
Follows (Writes due text) s files_before files_after before after =
    (s ≡ due) ⊎ (s ≡ status.Memory) ⊎ HasRisen files_before.faults files_after.faults ⊎ HasRisen before.faults after.faults
Follows (Stops due file) s files_before files_after before after =
    (s ≡ status_of due) ⊎ (s ≡ status.Memory) ⊎ HasRisen files_before.faults files_after.faults
