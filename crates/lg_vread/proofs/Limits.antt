-- What the reader gives is what the bytes are a text of, within its limits.
use Rattle.std.proofs.Common.{◌≡◌, ℕ, ◌≤◌, List, length, Result, Ok, Err, IfOk, IsErrOf, MatchResult, refl, sym, ◌∙◌}
use Rattle.std.proofs.lemmas.Option.{same_Some, none-some}
use Rattle.lg_vread.specs.declared.fault.ReadFault.{ReadFault}
use Rattle.lg_vread.specs.declared.fault.ReadFault.TheVariants.{NotSubset, Memory}
use Rattle.lg_vtree.specs.declared.module.Module.{Module}
use Rattle.lg_vread.specs.Lexing.{tokens_of}
use Rattle.lg_vread.specs.Reading.{module_at, Reads}
use Rattle.lg_vread.specs.Limits.{IsWithinLimits}
use Rattle.lg_vread.proofs.Texts.{text_is_read, is_text}

module _ (bytes : List ℕ) (short : length bytes ≤ 134217728) where
  abbrev IsRead : Result Module ReadFault → Type 0
  IsRead r = Reads r (module_at 100 (tokens_of bytes))

  pub found_within : (r : Result Module ReadFault) → IsRead r → IfOk r (λ m. IsWithinLimits bytes m)
  found_within (Ok m) e = let t = is_text 100 bytes m e in record { text = t.0; length = short; depth = t.1 }
  found_within (Err fault) e = tt

  pub found_only : (r : Result Module ReadFault) → IsRead r → (m : Module) → IsWithinLimits bytes m → MatchResult r (λ n. n ≡ m) (λ e. e ≡ Memory)
  found_only (Ok n) e m within = same_Some n m (sym e ∙ text_is_read 100 bytes m within.text within.depth)
  found_only (Err Memory) e m within = refl
  found_only (Err NotSubset) e m within = absurd (none-some m (sym e ∙ text_is_read 100 bytes m within.text within.depth))

  pub none_within : (r : Result Module ReadFault) → IsRead r → IsErrOf r NotSubset → (m : Module) → IsWithinLimits bytes m → ⊥
  none_within (Ok n) e refused m within = absurd cc
  none_within (Err NotSubset) e refused m within = none-some m (sym e ∙ text_is_read 100 bytes m within.text within.depth)
  none_within (Err Memory) e refused m within = absurd cc
