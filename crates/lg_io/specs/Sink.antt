-- What a sink takes of the bytes that it is given.
use Rattle.std.specs.Prelude.{ℕ, ◌≡◌, ◌≤◌, List, [], ◌++◌, length, take, Option, option_map, Result, Ok, Err, ⊤, ◌⊎◌}
use Rattle.lg_io.specs.Fault.{next_count, HasRisen}
use Rattle.lg_io.specs.declared.fault.SinkFault.{SinkFault}

-- what a contract sees of a sink: the bytes taken so far, where it tells them, and how often a write has failed
pub record Seen : Type 0 where
  pub taken : Option (List ℕ)
  pub faults : ℕ

-- the bytes that a write took by its answer: so many from the front, and none where it failed
abbrev pub accepted : Result ℕ SinkFault → List ℕ → List ℕ
accepted (Ok n) bytes = take n bytes
accepted (Err _) bytes = []

-- a sink that tells its bytes took these and nothing else
abbrev pub Took : Seen → Seen → List ℕ → Type 0
Took before after bytes = after.taken ≡ option_map (λ taken. taken ++ bytes) before.taken

-- a sink that tells its bytes took some of these from the front, maybe none or all of them, and nothing else
abbrev pub TookPrefix : Seen → Seen → List ℕ → Type 0
TookPrefix before after bytes = (n : ℕ) × (n ≤ length bytes) × Took before after (take n bytes)

-- what a write of all of these bytes did, by its answer: all were taken, or a prefix of them and the count rose
abbrev pub Wrote : Result ⊤ SinkFault → Seen → Seen → List ℕ → Type 0
Wrote (Ok _) before after bytes = Took before after bytes
Wrote (Err _) before after bytes = TookPrefix before after bytes × HasRisen before.faults after.faults

-- the bytes were taken, all of them, or else a prefix of them and the count rose
abbrev pub Said : Seen → Seen → List ℕ → Type 0
Said before after bytes = Took before after bytes ⊎ (TookPrefix before after bytes × HasRisen before.faults after.faults)

-- how many faults are counted after a write with this answer: one more where it failed
abbrev pub faults_after_write : ℕ → Result ℕ SinkFault → ℕ
faults_after_write n (Ok _) = n
faults_after_write n (Err _) = next_count n
