-- What a read of named contents may answer.
use Rattle.std.specs.Prelude.{ℕ, ◌≡◌, ◌<◌, ◌≤◌, List, length, Option, Some, None, Result, Ok, Err, Vec}
use Rattle.std.specs.declared.alloc.Global.{Global}
use Rattle.std.specs.declared.io.ErrorKind.{ErrorKind}
use Rattle.std.specs.declared.io.ErrorKind.TheVariants.{OutOfMemory}
use Rattle.lg_io.specs.Fault.{next_count}
use Rattle.lg_io.specs.declared.fault.FileFault.{FileFault}
use Rattle.lg_io.specs.declared.fault.FileFault.TheVariants.{Missing, TooLong, Failed, Memory}

-- what a contract sees of files: what is held by name, where they tell it (None: nothing), and how often a read has failed
pub record Seen : Type 0 where
  pub held : Option (List ℕ → Option (List ℕ))
  pub faults : ℕ

-- what a read of at most so many bytes may answer for what is held under its name (None: nothing)
abbrev pub IsReadAnswer : Option (List ℕ) → ℕ → Result (Vec ℕ Global) FileFault → Type 0
IsReadAnswer found most (Ok bytes) = (found ≡ Some bytes.items) × (length bytes.items ≤ most)
IsReadAnswer found most (Err Missing) = found ≡ None
IsReadAnswer found most (Err TooLong) = (bytes : List ℕ) × (found ≡ Some bytes) × (most < length bytes)
IsReadAnswer found most (Err Failed) = Unit {0}
IsReadAnswer found most (Err Memory) = Unit {0}

-- how many faults are counted after a read with this answer: one more where it failed
abbrev pub faults_after_read : ℕ → Result (Vec ℕ Global) FileFault → ℕ
faults_after_read n (Ok _) = n
faults_after_read n (Err Missing) = n
faults_after_read n (Err TooLong) = n
faults_after_read n (Err Failed) = next_count n
faults_after_read n (Err Memory) = n

-- why a read was refused, where the system gave this reason
abbrev pub fault_of : ErrorKind → FileFault
fault_of OutOfMemory = Memory
fault_of _ = Failed
