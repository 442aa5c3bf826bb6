-- Bytes have one answer as rows for a valid module: one text, or one fault.
use Rattle.std.proofs.Common.{◌≡◌, ◌≢◌, ℕ, ◌+◌, ◌⊎◌, inl, inr, List, [], length, refl, sym, ap, subst, ◌∙◌}
use Rattle.std.specs.Prelude.{All}
use Rattle.std.specs.List.{AllZip}
use Rattle.lg_vectors.specs.declared.fault.VectorFault.{VectorFault}
use Rattle.lg_vectors.specs.declared.fault.VectorFault.TheVariants as vector
use Rattle.lg_vectors.specs.declared.column.Column.{Column}
use Rattle.lg_vectors.specs.Binding.{AreBound, IsBindFault, IsMissing}
use Rattle.lg_vectors.specs.ReadFault.{IsReadFault}
use Rattle.lg_vtree.specs.declared.module.Module.{Module}
use Rattle.lg_vmeaning.specs.Rows.{start, AreRows}
use Rattle.lg_vmeaning.specs.Valid.{IsValid}
use Rattle.lg_vrows.specs.Rows.{IsDefinedRow, AreInputs, AreBoundRows, AreOutputsOf, input_pins}
use Rattle.lg_vrows.specs.Text.{rows_text}
use Rattle.lg_vrows.specs.Due.{IsRowsText, IsRowsFault, IsUnbound}
use Rattle.lg_vrows.specs.declared.fault.RowsFault.{RowsFault}
use Rattle.lg_vrows.specs.declared.fault.RowsFault.TheVariants as rows_fault
use Rattle.lg_vrows.proofs.BoundLemmas.{one_binding, bound_sound, whole_sound}
use Rattle.lg_vrows.proofs.InputLemmas.{one_rows as one_inputs}
use Rattle.lg_vrows.proofs.PortLemmas.{pins_differ}
use Rattle.lg_vrows.proofs.FirstLemmas.{holds_amid, one_first}
use Rattle.lg_vrows.proofs.OneFault.{one_read, read_sound, one_unbound}
use Rattle.lg_vrows.proofs.OneRows.{one_rows}
use Rattle.lg_vrows.proofs.OneVector.{Row, one_vector, vector_wide}

module _ (m : Module) (valid : IsValid m) (bytes : List ℕ) where
  -- bytes are bound in one way
  rows_same : (g h : AreBoundRows m bytes) → (g.columns ≡ h.columns) × (g.rows ≡ h.rows)
  rows_same g h = one_vector bytes g.columns h.columns g.rows h.rows g.says h.says

  indexes_same : (g h : AreBoundRows m bytes) → g.indexes ≡ h.indexes
  indexes_same g h =
      one_binding [] (input_pins m) g.columns g.indexes h.indexes (pins_differ m valid) g.bound
      (subst (λ (columns : List Column). AreBound [] (input_pins m) columns h.indexes) (sym (rows_same g h).0) h.bound)

  -- and have one list of outputs
  outs_same : (outs other : List (List ℕ)) → AreOutputsOf m bytes outs → AreOutputsOf m bytes other → outs ≡ other
  outs_same outs other a b =
      let g = a.given in
      let h = b.given in
      let are : AllZip (AreInputs (length (input_pins m)) g.indexes) g.rows b.inputs =
      subst (λ (indexes : List ℕ). AllZip (AreInputs (length (input_pins m)) indexes) g.rows b.inputs) (sym (indexes_same g h))
      (subst (λ (rows : List Row). AllZip (AreInputs (length (input_pins m)) h.indexes) rows b.inputs) (sym (rows_same g h).1) b.are_inputs) in
      let inputs : a.inputs ≡ b.inputs =
      one_inputs (input_pins m) g.columns g.indexes (pins_differ m valid) g.bound g.whole g.rows a.inputs b.inputs (vector_wide bytes g.columns g.rows g.says) a.are_inputs are in
      one_rows m valid (start m) a.inputs outs other a.outputs (subst (λ (rows : List (List ℕ)). AreRows m (start m) rows other) (sym inputs) b.outputs)

  -- a vector is not read or not bound for one reason
  one_vector_fault : (fault other : VectorFault) → fault ≢ vector.Memory → other ≢ vector.Memory
      → IsReadFault 65536 bytes fault ⊎ IsUnbound m bytes fault → IsReadFault 65536 bytes other ⊎ IsUnbound m bytes other → fault ≡ other
  one_vector_fault fault other p q (inl h) (inl k) = one_read bytes fault other p q h k
  one_vector_fault fault other p q (inl h) (inr k) = absurd (read_sound bytes k.columns k.rows fault p h k.says k.few)
  one_vector_fault fault other p q (inr h) (inl k) = absurd (read_sound bytes h.columns h.rows other q k h.says h.few)
  one_vector_fault fault other p q (inr h) (inr k) =
      let same : h.columns ≡ k.columns = (one_vector bytes h.columns k.columns h.rows k.rows h.says k.says).0 in
      one_unbound (input_pins m) k.columns fault other (pins_differ m valid)
      (subst (λ (columns : List Column). IsBindFault (input_pins m) columns fault ⊎ IsMissing (input_pins m) columns fault) same h.reason) k.reason

  -- and one that is bound for none
  bound_apart : (fault : VectorFault) → fault ≢ vector.Memory → IsReadFault 65536 bytes fault ⊎ IsUnbound m bytes fault → AreBoundRows m bytes → ⊥
  bound_apart fault p (inl h) g = read_sound bytes g.columns g.rows fault p h g.says g.few
  bound_apart fault p (inr h) g =
      let same : h.columns ≡ g.columns = (one_vector bytes h.columns g.columns h.rows g.rows h.says g.says).0 in
      by_reason (subst (λ (columns : List Column). IsBindFault (input_pins m) columns fault ⊎ IsMissing (input_pins m) columns fault) same h.reason)
    where
      by_reason : IsBindFault (input_pins m) g.columns fault ⊎ IsMissing (input_pins m) g.columns fault → ⊥
      by_reason (inl bad) = bound_sound (input_pins m) g.columns g.indexes fault (pins_differ m valid) g.bound bad
      by_reason (inr missing) = whole_sound (input_pins m) g.columns fault g.whole missing

-- bytes have one text
pub one_text : (m : Module) → IsValid m → (bytes text other : List ℕ) → IsRowsText m bytes text → IsRowsText m bytes other → text ≡ other
one_text m valid bytes text other t u = t.2 ∙ (ap (rows_text m) (outs_same m valid bytes t.0 u.0 t.1 u.1) ∙ sym u.2)

-- bytes of a text have no fault
pub no_fault : (m : Module) → IsValid m → (bytes text : List ℕ) (fault : RowsFault) → fault ≢ rows_fault.Memory → IsRowsFault m bytes fault → IsRowsText m bytes text → ⊥
no_fault m valid bytes text (rows_fault.Vector fault) p h t = bound_apart m valid bytes fault h.0 h.1 t.1.given
no_fault m valid bytes text (rows_fault.Undefined row) p h t =
    let rows = (rows_same m valid bytes t.1.given h.0).1 ∙ h.1.parts in
    h.1.undefined (holds_amid IsDefinedRow h.1.before h.1.row h.1.after (subst (All IsDefinedRow) rows t.1.defined))
no_fault m valid bytes text rows_fault.Memory p h t = p refl

-- bytes have one fault
pub one_fault : (m : Module) → IsValid m → (bytes : List ℕ) (fault other : RowsFault) → fault ≢ rows_fault.Memory → other ≢ rows_fault.Memory → IsRowsFault m bytes fault → IsRowsFault m bytes other → fault ≡ other
one_fault m valid bytes (rows_fault.Vector f) (rows_fault.Vector g) p q h k = ap rows_fault.Vector (one_vector_fault m valid bytes f g h.0 k.0 h.1 k.1)
one_fault m valid bytes (rows_fault.Vector f) (rows_fault.Undefined r) p q h k = absurd (bound_apart m valid bytes f h.0 h.1 k.0)
one_fault m valid bytes (rows_fault.Undefined r) (rows_fault.Vector g) p q h k = absurd (bound_apart m valid bytes g k.0 k.1 h.0)
one_fault m valid bytes (rows_fault.Undefined r) (rows_fault.Undefined s) p q h k =
    let rows = (rows_same m valid bytes h.0 k.0).1 in
    let same = one_first IsDefinedRow h.0.rows h.1.before k.1.before h.1.after k.1.after h.1.row k.1.row h.1.parts (rows ∙ k.1.parts) h.1.defined k.1.defined h.1.undefined k.1.undefined in
    ap rows_fault.Undefined (h.1.counted ∙ (ap (λ (before : List Row). length before + 1) same.0 ∙ sym k.1.counted))
one_fault m valid bytes rows_fault.Memory other p q h k = absurd (p refl)
one_fault m valid bytes (rows_fault.Vector f) rows_fault.Memory p q h k = absurd (q refl)
one_fault m valid bytes (rows_fault.Undefined r) rows_fault.Memory p q h k = absurd (q refl)
