-- What a read answers, it answers of something that it finds.
use Rattle.std.proofs.Common.{◌≡◌, ℕ, ◌+◌, ◌<◌, ◌≤◌, List, length, replicate, Option, Some, None, Err, refl, arith}
use Rattle.std.specs.Prelude.{IfSome}
use Rattle.std.proofs.lemmas.List.{length-replicate}
use Rattle.lg_io.specs.Fault.{HasRisen}
use Rattle.lg_io.specs.Files.{Seen, IsReadAnswer}
use Rattle.lg_io.specs.declared.fault.FileFault.{FileFault}
use Rattle.lg_io.specs.declared.fault.FileFault.TheVariants.{Missing, TooLong, Failed, Memory}
use Rattle.lg_run.specs.Contents.{Held, Finds, IsUnread, NoFile, Long, Fault, NoMemory}
use Rattle.lg_run.specs.Stops.{file_stop}

-- something is found
pub something : (told : Option Held) (file : List ℕ) → (found : Option (List ℕ)) × Finds told file found
something None file = (None, tt)
something (Some held) file = (held file, refl)

-- the bytes that were read
pub finds_bytes : (told : Option Held) (file bytes : List ℕ) (most : ℕ) → IfSome told (λ held. (held file ≡ Some bytes) × (length bytes ≤ most)) → Finds told file (Some bytes)
finds_bytes None file bytes most answer = tt
finds_bytes (Some held) file bytes most answer = answer.0

-- more bytes than so many
too_many : (most : ℕ) → (bytes : List ℕ) × (most < length bytes)
too_many most =
    let zero : ℕ = 0 in
    let long : length (replicate (most + 1) zero) ≡ most + 1 = length-replicate (most + 1) zero in
    (replicate (most + 1) zero, omega (arith, long))

-- why there are no bytes
pub not_read : (before after : Seen) (file : List ℕ) (most : ℕ) (fault : FileFault) → IfSome before.held (λ held. IsReadAnswer (held file) most (Err fault))
    → (fault ≡ Failed → HasRisen before.faults after.faults) → IsUnread before after file most (file_stop fault)
not_read before after file most fault answer rose = by before.held fault answer rose
  where
    by : (told : Option Held) (fault : FileFault) → IfSome told (λ held. IsReadAnswer (held file) most (Err fault)) → (fault ≡ Failed → HasRisen before.faults after.faults)
        → IsUnread (record { held = told; faults = before.faults }) after file most (file_stop fault)
    by (Some held) Missing is r = NoFile is refl
    by (Some held) TooLong is r = Long is.0 is.1 is.2 refl
    by (Some held) Failed is r = Fault (r refl) refl
    by (Some held) Memory is r = NoMemory refl
    by None Missing is r = NoFile tt refl
    by None TooLong is r = let long = too_many most in Long long.0 tt long.1 refl
    by None Failed is r = Fault (r refl) refl
    by None Memory is r = NoMemory refl
