-- What a read of a file gives.
use Rattle.std.specs.Prelude.{◌≡◌, ℕ, ◌<◌, ◌≤◌, List, length, Option, Some, None, Result, Ok, Err, Vec, IfSome}
use Rattle.std.specs.declared.alloc.Global.{Global}
use Rattle.lg_io.specs.Fault.{HasRisen}
use Rattle.lg_io.specs.Files.{Seen}
use Rattle.lg_run.specs.declared.stop.Refusal.TheVariants.{Missing, TooLong}
use Rattle.lg_run.specs.declared.stop.Stop.{Stop}
use Rattle.lg_run.specs.declared.stop.Stop.TheVariants.{Input, ReadFault, Memory}
use Rattle.lg_run.specs.declared.stop.Stopped.{Stopped}

-- contents by name
abbrev pub Held : Type 0
Held = List ℕ → Option (List ℕ)

-- what a read of a file finds: what is held, where the files tell it, and else anything
abbrev pub Finds : Option Held → List ℕ → Option (List ℕ) → Type 0
Finds told file found = IfSome told (λ held. held file ≡ found)

-- why there are no bytes: there is no file, or it has more than so many; a fault comes only where its count rose, and of want
-- of memory nothing is said
pub data IsUnread (before after : Seen) (file : List ℕ) (most : ℕ) (why : Stop) : Type 0 where
  NoFile : Finds before.held file None → why ≡ Input Missing → IsUnread before after file most why
  Long : (bytes : List ℕ) → Finds before.held file (Some bytes) → most < length bytes → why ≡ Input TooLong → IsUnread before after file most why
  Fault : HasRisen before.faults after.faults → why ≡ ReadFault → IsUnread before after file most why
  NoMemory : why ≡ Memory → IsUnread before after file most why

-- the bytes that a read finds, of which there may be so many, or why there are none
abbrev pub IsContents : Seen → Seen → List ℕ → ℕ → Result (Vec ℕ Global) Stopped → Type 0
IsContents before after file most (Ok bytes) = Finds before.held file (Some bytes.items) × (length bytes.items ≤ most)
IsContents before after file most (Err s) = (s.file.now ≡ file) × IsUnread before after file most s.stop
