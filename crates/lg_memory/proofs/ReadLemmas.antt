-- Outputs are the same where the inputs agree that they read.
use Rattle.std.proofs.Common.{◌≡◌, ℕ, zero, suc, true, List, [], ◌∷◌, refl, ap}
use Rattle.std.specs.Prelude.{slice_get, slice_index_or}
use Rattle.lg_value.specs.declared.bit.Bit.TheVariants.{Unknown}
use Rattle.lg_memory.specs.declared.form.StateForm.{StateForm}
use Rattle.lg_memory.specs.declared.form.StateForm.TheVariants.{Flip, Register, Counter, Shift, Rom, Ram}
use Rattle.lg_memory.specs.Inputs.{Word, word_at, defined_number}
use Rattle.lg_memory.specs.Counter.{carry}
use Rattle.lg_memory.specs.Storage.{ram_read, rom_read}
use Rattle.lg_memory.specs.Reads.{reads}
use Rattle.lg_memory.specs.Step.{outputs}

-- two lists of inputs have the same words where an output reads them
abbrev Agree : StateForm → ℕ → List Word → List Word → Type 0
Agree form output one other = (input : ℕ) → reads form output input ≡ true → word_at one input ≡ word_at other input

pub outputs-read : (form : StateForm) (words : List Word) (output : ℕ) (one other : List Word) → Agree form output one other → slice_get (outputs form words one) output ≡ slice_get (outputs form words other) output
outputs-read (Flip kind trigger) words output one other same = refl
outputs-read (Register width trigger) words output one other same = refl
outputs-read (Counter width max goal trigger) words zero one other same = refl
outputs-read (Counter width max goal trigger) words (suc zero) one other same =
    ap (λ (ud : Word). slice_get (word_at words 0 ∷ (carry max (slice_index_or ud 0 Unknown) (defined_number (word_at words 0)) ∷ []) ∷ []) 1) (same 2 refl)
outputs-read (Counter width max goal trigger) words (suc (suc output)) one other same = refl
outputs-read (Shift width stages parallel trigger) words output one other same = refl
outputs-read (Rom address width contents) words output one other same =
    ap (λ (a : Word). slice_get (rom_read width contents (defined_number a) ∷ []) output) (same 0 refl)
outputs-read (Ram address width trigger) words output one other same =
    ap (λ (a : Word). slice_get (ram_read width words (defined_number a) ∷ []) output) (same 0 refl)
