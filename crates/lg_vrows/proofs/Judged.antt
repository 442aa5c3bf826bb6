-- Bytes are a text of a valid module, or have a fault as one; and they are rows for it, or have a fault as these.
use Rattle.std.proofs.Common.{◌≡◌, ℕ, ◌+◌, ◌-◌, ◌^◌, ◌<◌, ◌≤◌, ◌⊎◌, inl, inr, List, [], length, Option, Some, None, Ok, Err, refl, sym, ◌∙◌}
use Rattle.std.specs.Prelude.{◌≢◌, All, min}
use Rattle.std.proofs.lemmas.Bool.Decides.{leb_tells}
use Rattle.lg_text.proofs.Deciding.{Decided, FirstLacking, below, each, all_or_first}
use Rattle.lg_value.specs.declared.bit.Bit.{Bit}
use Rattle.lg_value.specs.declared.bit.Bit.TheVariants.{Zero, One, Unknown, Error}
use Rattle.lg_vectors.specs.declared.column.Column.{Column}
use Rattle.lg_vectors.specs.declared.fault.VectorFault.{VectorFault}
use Rattle.lg_vectors.specs.declared.fault.VectorFault.TheVariants as vector
use Rattle.lg_vectors.specs.Binding.{AreBound, HaveColumns, IsBindFault, IsMissing}
use Rattle.lg_vectors.specs.CaredBits.{CaredBits}
use Rattle.lg_vectors.specs.VectorText.{IsVectorText, IsFirstOutside}
use Rattle.lg_vectors.proofs.DecidedBinding.{bound_or_not}
use Rattle.lg_vectors.proofs.DecidedLines.{vector_or_outside}
use Rattle.lg_vtree.specs.declared.module.Module.{Module}
use Rattle.lg_vread.specs.declared.fault.ReadFault.TheVariants as read
use Rattle.lg_vread.specs.Lexing.{tokens_of}
use Rattle.lg_vread.specs.Limits.{IsWithinLimits}
use Rattle.lg_vread.specs.Reading.{module_at}
use Rattle.lg_vread.proofs.Limits.{found_within, none_within}
use Rattle.lg_vrules.specs.Depends.{IsFirstCyclic, IsAcyclic}
use Rattle.lg_vrules.specs.Rules.{first_broken}
use Rattle.lg_vrules.proofs.GraphLemmas.{cyclic_or_not}
use Rattle.lg_vrules.proofs.RuleLemmas.{assigned_differ}
use Rattle.lg_vmeaning.specs.Valid.{IsValid}
use Rattle.lg_vrows.specs.declared.fault.ModuleFault.{ModuleFault}
use Rattle.lg_vrows.specs.declared.fault.ModuleFault.TheVariants as module_fault
use Rattle.lg_vrows.specs.declared.fault.RowsFault.{RowsFault}
use Rattle.lg_vrows.specs.declared.fault.RowsFault.TheVariants as rows_fault
use Rattle.lg_vrows.specs.Due.{IsValidText, IsModuleFault, IsRowsText, IsRowsFault}
use Rattle.lg_vrows.specs.Rows.{AreBoundRows, IsWhole, IsDefinedRow, input_pins}
use Rattle.lg_vrows.proofs.SomeText.{rows_exist}

-- ---- modules

abbrev IsJudged : List ℕ → Type 0
IsJudged bytes = ((m : Module) × IsValidText bytes m) ⊎ ((fault : ModuleFault) × (fault ≢ module_fault.Memory) × IsModuleFault bytes fault)

by_cycles : (bytes : List ℕ) (m : Module) → IsWithinLimits bytes m → first_broken m ≡ None → ((at : ℕ) × IsFirstCyclic m at) ⊎ IsAcyclic m → IsJudged bytes
by_cycles bytes m within rules (inr acyclic) = inl (m, record { within = within; valid = record { rules = rules; acyclic = acyclic } })
by_cycles bytes m within rules (inl (at, first)) =
    inr (
      module_fault.Cyclic first.assign.name,
      λ e. absurd cc,
      record { tree = m; within = within; invalid = record { rules = rules; at = at; first = first; named = refl } },
    )

by_rules : (bytes : List ℕ) (m : Module) → IsWithinLimits bytes m → (broken : Option ℕ) → first_broken m ≡ broken → IsJudged bytes
by_rules bytes m within (Some rule) e = inr (module_fault.NotValid rule, λ e. absurd cc, record { tree = m; within = within; invalid = e })
by_rules bytes m within None e = by_cycles bytes m within e (cyclic_or_not m (assigned_differ m e))

pub module_or_fault : (bytes : List ℕ) → length bytes ≤ 134217728 → IsJudged bytes
module_or_fault bytes short = by (module_at 100 (tokens_of bytes)) refl
  where
    by : (found : Option Module) → module_at 100 (tokens_of bytes) ≡ found → IsJudged bytes
    by (Some m) e = by_rules bytes m (found_within bytes short (Ok m) e) (first_broken m) refl
    by None e = inr (module_fault.NotSubset, λ e. absurd cc, none_within bytes short (Err read.NotSubset) e refl)

-- ---- rows

is_one : (bit : Bit) → Decided (bit ≡ One)
is_one One = inl refl
is_one Zero = inr (λ e. absurd cc)
is_one Unknown = inr (λ e. absurd cc)
is_one Error = inr (λ e. absurd cc)

is_defined : (row : List CaredBits) → Decided (IsDefinedRow row)
is_defined row = each IsWhole (λ value. each (λ bit. bit ≡ One) is_one value.care) row

module _ (m : Module) (valid : IsValid m) (bytes : List ℕ) where
  abbrev HasRows : Type 0
  HasRows = ((text : List ℕ) × IsRowsText m bytes text) ⊎ ((fault : RowsFault) × (fault ≢ rows_fault.Memory) × IsRowsFault m bytes fault)

  no_vector : (why : VectorFault) → why ≢ vector.Memory → IsRowsFault m bytes (rows_fault.Vector why) → HasRows
  no_vector why known is = inr (rows_fault.Vector why, λ e. absurd cc, is)

  by_definition : (given : AreBoundRows m bytes) → All IsDefinedRow given.rows ⊎ FirstLacking IsDefinedRow given.rows → HasRows
  by_definition given (inl defined) = inl (rows_exist m valid bytes given defined)
  by_definition given (inr f) =
      inr (
        rows_fault.Undefined (length f.before + 1),
        λ e. absurd cc,
        (given, record { before = f.before; row = f.here; after = f.after; parts = f.parts; counted = refl; defined = f.have; undefined = f.lacks }),
      )

  module _ (columns : List Column) (rows : List (List CaredBits)) (says : IsVectorText bytes columns rows) where
    by_binding : length rows ≤ 65536
        → ((indexes : List ℕ) × AreBound [] (input_pins m) columns indexes × HaveColumns columns (input_pins m))
        ⊎ ((why : VectorFault) × (why ≢ vector.Memory) × (IsBindFault (input_pins m) columns why ⊎ IsMissing (input_pins m) columns why)) → HasRows
    by_binding few (inl (indexes, bound, whole)) =
        let given : AreBoundRows m bytes = record { columns = columns; rows = rows; says = says; few = few; indexes = indexes; bound = bound; whole = whole } in
        by_definition given (all_or_first IsDefinedRow is_defined rows)
    by_binding few (inr (why, known, reason)) =
        no_vector why known (known, inr (record { columns = columns; rows = rows; says = says; few = few; reason = reason }))

    by_count : Decided (65536 < length rows) → HasRows
    by_count (inl more) = no_vector vector.TooManyRows (λ e. absurd cc) (λ e. absurd cc, inl (columns, rows, says, more))
    by_count (inr never) = by_binding (elim (leb_tells (length rows) 65536) as (λ _. length rows ≤ 65536) [ inl h ↦ h.1 | inr h ↦ absurd (never h.1) ]) (bound_or_not (input_pins m) columns)

  pub rows_or_fault : HasRows
  rows_or_fault = by (vector_or_outside bytes)
    where
      by : ((columns : List Column) × (rows : List (List CaredBits)) × IsVectorText bytes columns rows) ⊎ ((number : ℕ) × IsFirstOutside bytes number) → HasRows
      by (inl (columns, rows, says)) = by_count columns rows says (below 65536 (length rows))
      by (inr (number, outside)) = no_vector (vector.NotVector (min number (2 ^ 32 - 1))) (λ e. absurd cc) (λ e. absurd cc, inl (number, outside, refl))
