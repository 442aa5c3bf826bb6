-- A valid module has no fault but want of memory, and what stands against binding columns stands against rows.
use Rattle.std.proofs.Common.{◌≡◌, ◌≢◌, ℕ, ◌≤◌, List, length, refl, sym, subst, inl, inr, ◌⊎◌}
use Rattle.lg_vectors.specs.declared.fault.VectorFault.{VectorFault}
use Rattle.lg_vectors.specs.declared.fault.VectorFault.TheVariants as vector
use Rattle.lg_vectors.specs.declared.column.Column.{Column}
use Rattle.lg_vectors.specs.CaredBits.{CaredBits}
use Rattle.lg_vectors.specs.Binding.{IsBindFault, IsMissing}
use Rattle.lg_vectors.specs.VectorText.{IsVectorText}
use Rattle.lg_vtree.specs.declared.module.Module.{Module}
use Rattle.lg_vrows.specs.Due.{IsRowsFault}
use Rattle.lg_vrows.specs.Faults.{vector_fault}
use Rattle.lg_vrows.specs.Rows.{input_pins}
use Rattle.lg_vrows.specs.declared.fault.RowsFault.TheVariants as rows_fault

-- want of memory, or not
memory_or_not : (fault : VectorFault) → (fault ≡ vector.Memory) ⊎ (fault ≢ vector.Memory)
memory_or_not vector.Memory = inl refl
memory_or_not vector.TooManyRows = inr (λ e. cc e)
memory_or_not (vector.NotVector line) = inr (λ e. cc e)
memory_or_not (vector.NoPin name) = inr (λ e. cc e)
memory_or_not (vector.PinWidth name) = inr (λ e. cc e)
memory_or_not (vector.PinClash name) = inr (λ e. cc e)
memory_or_not (vector.MissingPin name) = inr (λ e. cc e)

named_fault : (fault : VectorFault) → fault ≢ vector.Memory → vector_fault fault ≡ rows_fault.Vector fault
named_fault vector.Memory other = absurd (other refl)
named_fault vector.TooManyRows other = refl
named_fault (vector.NotVector line) other = refl
named_fault (vector.NoPin name) other = refl
named_fault (vector.PinWidth name) other = refl
named_fault (vector.PinClash name) other = refl
named_fault (vector.MissingPin name) other = refl

-- why columns are not bound is why there are no rows
pub unbound_fault : (m : Module) (bytes : List ℕ) (columns : List Column) (rows : List (List CaredBits)) (fault : VectorFault) → IsVectorText bytes columns rows → length rows ≤ 65536
    → (fault ≡ vector.Memory) ⊎ (IsBindFault (input_pins m) columns fault ⊎ IsMissing (input_pins m) columns fault) → IsRowsFault m bytes (vector_fault fault)
unbound_fault m bytes columns rows fault says few (inl e) = subst (λ (f : VectorFault). IsRowsFault m bytes (vector_fault f)) (sym e) tt
unbound_fault m bytes columns rows fault says few (inr reason) = elim (memory_or_not fault) [
  | inl e ↦ subst (λ (f : VectorFault). IsRowsFault m bytes (vector_fault f)) (sym e) tt
  | inr other ↦ subst (IsRowsFault m bytes) (sym (named_fault fault other)) (other, inr (record { columns = columns; rows = rows; says = says; few = few; reason = reason }))
]
