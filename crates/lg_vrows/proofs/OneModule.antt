-- Bytes have one answer as a module: one valid module, or one fault.
use Rattle.std.proofs.Common.{◌≡◌, ◌≢◌, ℕ, ◌<◌, ◌⊎◌, inl, inr, List, refl, sym, ap, subst, ◌∙◌}
use Rattle.std.specs.Prelude.{slice_get}
use Rattle.std.proofs.lemmas.Bool.{cases_order}
use Rattle.std.proofs.lemmas.Option.{same_Some}
use Rattle.lg_vtree.specs.declared.module.Assign.{Assign}
use Rattle.lg_vtree.specs.declared.module.Module.{Module}
use Rattle.lg_vread.specs.Limits.{IsWithinLimits}
use Rattle.lg_vread.proofs.Texts.{one_module_lem}
use Rattle.lg_vrules.specs.Depends.{IsFirstCyclic}
use Rattle.lg_vmeaning.specs.declared.validity.MeanFault.{MeanFault}
use Rattle.lg_vmeaning.specs.declared.validity.MeanFault.TheVariants as mean
use Rattle.lg_vmeaning.specs.Valid.{IsValid, IsInvalid}
use Rattle.lg_vrows.specs.declared.fault.ModuleFault.{ModuleFault}
use Rattle.lg_vrows.specs.declared.fault.ModuleFault.TheVariants as module_fault
use Rattle.lg_vrows.specs.Due.{IsValidText, IsInvalidText, IsModuleFault}
use Rattle.lg_vrows.specs.Faults.{mean_fault}

-- bytes have one tree within the limits
pub one_tree : (bytes : List ℕ) (a b : Module) → IsWithinLimits bytes a → IsWithinLimits bytes b → a ≡ b
one_tree bytes a b within also = one_module_lem bytes a b within.text also.text

pub one_valid : (bytes : List ℕ) (m other : Module) → IsValidText bytes m → IsValidText bytes other → m ≡ other
one_valid bytes m other is also = one_tree bytes m other is.within also.within

-- what is first of the assigns that depend on themselves has one name
first_cyclic_same : (m : Module) (at other : ℕ) (c : IsFirstCyclic m at) (d : IsFirstCyclic m other) → c.assign.name ≡ d.assign.name
first_cyclic_same m at other c d = by_order (cases_order at other)
  where
    by_order : (at ≡ other) ⊎ ((at < other) ⊎ (other < at)) → c.assign.name ≡ d.assign.name
    by_order (inl same) = ap (λ (a : Assign). a.name) (same_Some c.assign d.assign (sym c.stands ∙ (ap (slice_get m.assigns) same ∙ d.stands)))
    by_order (inr (inl before)) = absurd (d.first at c.assign before c.stands c.cyclic)
    by_order (inr (inr after)) = absurd (c.first other d.assign after d.stands d.cyclic)

-- a module is not valid for one reason
one_reason : (m : Module) (fault other : MeanFault) → fault ≢ mean.Memory → other ≢ mean.Memory → IsInvalid m fault → IsInvalid m other → fault ≡ other
one_reason m (mean.NotValid r) (mean.NotValid s) p q h k = ap mean.NotValid (same_Some r s (sym h ∙ k))
one_reason m (mean.NotValid r) (mean.Cyclic w) p q h k = absurd (cc (sym k.rules ∙ h))
one_reason m (mean.Cyclic w) (mean.NotValid r) p q h k = absurd (cc (sym h.rules ∙ k))
one_reason m (mean.Cyclic w) (mean.Cyclic x) p q h k = ap mean.Cyclic (sym h.named ∙ (first_cyclic_same m h.at k.at h.first k.first ∙ k.named))
one_reason m mean.Memory other p q h k = absurd (p refl)
one_reason m (mean.NotValid r) mean.Memory p q h k = absurd (q refl)
one_reason m (mean.Cyclic w) mean.Memory p q h k = absurd (q refl)

-- and so are bytes
one_invalid : (bytes : List ℕ) (fault other : MeanFault) → fault ≢ mean.Memory → other ≢ mean.Memory → IsInvalidText bytes fault → IsInvalidText bytes other → fault ≡ other
one_invalid bytes fault other p q h k =
    one_reason k.tree fault other p q (subst (λ (m : Module). IsInvalid m fault) (one_tree bytes h.tree k.tree h.within k.within) h.invalid) k.invalid

-- a valid module has no reason not to be
valid_apart : (m : Module) (fault : MeanFault) → fault ≢ mean.Memory → IsInvalid m fault → IsValid m → ⊥
valid_apart m (mean.NotValid r) p h valid = cc (sym valid.rules ∙ h)
valid_apart m (mean.Cyclic w) p h valid = valid.acyclic h.at h.first.assign h.first.stands h.first.cyclic
valid_apart m mean.Memory p h valid = p refl

text_apart : (bytes : List ℕ) (m : Module) (fault : MeanFault) → fault ≢ mean.Memory → IsInvalidText bytes fault → IsValidText bytes m → ⊥
text_apart bytes m fault p h is =
    valid_apart m fault p (subst (λ (t : Module). IsInvalid t fault) (one_tree bytes h.tree m h.within is.within) h.invalid) is.valid

-- bytes of a valid module have no fault
pub no_fault : (bytes : List ℕ) (m : Module) (fault : ModuleFault) → fault ≢ module_fault.Memory → IsModuleFault bytes fault → IsValidText bytes m → ⊥
no_fault bytes m module_fault.NotSubset p h is = h m is.within
no_fault bytes m (module_fault.NotValid r) p h is = text_apart bytes m (mean.NotValid r) (λ e. cc e) h is
no_fault bytes m (module_fault.Cyclic w) p h is = text_apart bytes m (mean.Cyclic w) (λ e. cc e) h is
no_fault bytes m module_fault.Memory p h is = p refl

-- bytes have one fault
pub one_fault : (bytes : List ℕ) (fault other : ModuleFault) → fault ≢ module_fault.Memory → other ≢ module_fault.Memory → IsModuleFault bytes fault → IsModuleFault bytes other → fault ≡ other
one_fault bytes module_fault.NotSubset module_fault.NotSubset p q h k = refl
one_fault bytes module_fault.NotSubset (module_fault.NotValid r) p q h k = absurd (h k.tree k.within)
one_fault bytes module_fault.NotSubset (module_fault.Cyclic w) p q h k = absurd (h k.tree k.within)
one_fault bytes (module_fault.NotValid r) module_fault.NotSubset p q h k = absurd (k h.tree h.within)
one_fault bytes (module_fault.Cyclic w) module_fault.NotSubset p q h k = absurd (k h.tree h.within)
one_fault bytes (module_fault.NotValid r) (module_fault.NotValid s) p q h k = ap mean_fault (one_invalid bytes (mean.NotValid r) (mean.NotValid s) (λ e. cc e) (λ e. cc e) h k)
one_fault bytes (module_fault.NotValid r) (module_fault.Cyclic x) p q h k = ap mean_fault (one_invalid bytes (mean.NotValid r) (mean.Cyclic x) (λ e. cc e) (λ e. cc e) h k)
one_fault bytes (module_fault.Cyclic w) (module_fault.NotValid s) p q h k = ap mean_fault (one_invalid bytes (mean.Cyclic w) (mean.NotValid s) (λ e. cc e) (λ e. cc e) h k)
one_fault bytes (module_fault.Cyclic w) (module_fault.Cyclic x) p q h k = ap mean_fault (one_invalid bytes (mean.Cyclic w) (mean.Cyclic x) (λ e. cc e) (λ e. cc e) h k)
one_fault bytes module_fault.Memory other p q h k = absurd (p refl)
one_fault bytes module_fault.NotSubset module_fault.Memory p q h k = absurd (q refl)
one_fault bytes (module_fault.NotValid r) module_fault.Memory p q h k = absurd (q refl)
one_fault bytes (module_fault.Cyclic w) module_fault.Memory p q h k = absurd (q refl)
