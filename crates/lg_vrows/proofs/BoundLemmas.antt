-- Columns that are bound to pins whose names differ: each pin has one column, and the indexes are the only ones.
use Rattle.std.proofs.Common.{◌≡◌, ℕ, zero, suc, Bool, true, false, ◌||◌, List, [], ◌∷◌, ◌++◌, length, Some, refl, sym, ap, subst, ◌∙◌, append_assoc, append-nil}
use Rattle.std.specs.Prelude.{All, slice_get, option_map}
use Rattle.std.specs.List.{AllByRecursion, IsDistinct}
use Rattle.std.specs.Str.{bytes_eq}
use Rattle.std.proofs.lemmas.Bool.{false≢true}
use Rattle.std.proofs.lemmas.List.Elements.{All-tail, All-head}
use Rattle.std.proofs.lemmas.List.Folds.{list_any-append}
use Rattle.std.proofs.lemmas.Map.Keys.{IsDistinct-head, IsDistinct-tail, any_passes_from_place}
use Rattle.std.proofs.lemmas.Option.{same_Some, slice_get_within, slice_get-map}
use Rattle.std.proofs.lemmas.Slice.Eq.{bytes_eq-Decides}
use Rattle.lg_vectors.specs.declared.fault.VectorFault.{VectorFault}
use Rattle.lg_vectors.specs.declared.fault.VectorFault.TheVariants as vector
use Rattle.lg_vectors.specs.declared.column.Column.{Column}
use Rattle.lg_vectors.specs.declared.pin.PinShape.{PinShape}
use Rattle.lg_vectors.specs.Binding.{column_names, pin_names, has_name, IsPinOf, AreBound, IsColumnFault, IsBindFault, HaveColumns, IsMissing}
use Rattle.lg_vrows.specs.Steps.{AreIndexes}

-- an item at an index of a list that passes
pub at_each : {X : Type 0} (P : X → Type 0) (xs : List X) (i : ℕ) (x : X) → AllByRecursion P xs → slice_get xs i ≡ Some x → P x
at_each P [] i x each e = absurd (cc e)
at_each P (y ∷ xs) zero x each e = subst P (same_Some y x e) each.0
at_each P (y ∷ xs) (suc i) x each e = at_each P xs i x each.1 e

-- a name stands at one index of names that differ
one_index : (names : List (List ℕ)) → IsDistinct bytes_eq names → (i j : ℕ) (name : List ℕ) → slice_get names i ≡ Some name → slice_get names j ≡ Some name → i ≡ j
one_index [] differ i j name e f = absurd (cc e)
one_index (n ∷ names) differ zero zero name e f = refl
one_index (n ∷ names) differ (suc i) (suc j) name e f = ap suc (one_index names (IsDistinct-tail bytes_eq n names differ) i j name e f)
one_index (n ∷ names) differ zero (suc j) name e f =
    let apart = at_each (λ (y : List ℕ). bytes_eq n y ≡ false) names j name (IsDistinct-head bytes_eq n names differ) f in
    absurd (false≢true (sym apart ∙ (bytes_eq-Decides n name).1 (same_Some n name e)))
one_index (n ∷ names) differ (suc i) zero name e f =
    let apart = at_each (λ (y : List ℕ). bytes_eq n y ≡ false) names i name (IsDistinct-head bytes_eq n names differ) e in
    absurd (false≢true (sym apart ∙ (bytes_eq-Decides n name).1 (same_Some n name f)))

pin_named : (pins : List PinShape) (i : ℕ) (pin : PinShape) → slice_get pins i ≡ Some pin → slice_get (pin_names pins) i ≡ Some pin.name
pin_named pins i pin e = slice_get-map (λ (p : PinShape). p.name) pins i ∙ ap (option_map (λ (p : PinShape). p.name)) e

-- pins with one name stand at one index
pub one_pin : (pins : List PinShape) → IsDistinct bytes_eq (pin_names pins) → (i j : ℕ) (pin other : PinShape) → slice_get pins i ≡ Some pin → slice_get pins j ≡ Some other → pin.name ≡ other.name → i ≡ j
one_pin pins differ i j pin other e f same = one_index (pin_names pins) differ i j pin.name (pin_named pins i pin e) (pin_named pins j other f ∙ ap Some (sym same))

-- a name that is not among some names and one more is not among those
less_names : (names : List (List ℕ)) (last name : List ℕ) → has_name (names ++ last ∷ []) name ≡ false → (has_name names name ≡ false) × (bytes_eq name last ≡ false)
less_names names last name e = apart (has_name names name) (bytes_eq name last) (sym (list_any-append (bytes_eq name) names (last ∷ [])) ∙ e)
  where
    apart : (a b : Bool) → (a || (b || false)) ≡ false → (a ≡ false) × (b ≡ false)
    apart false false e = (refl, refl)
    apart true b e = absurd (cc e)
    apart false true e = absurd (cc e)

-- the column of an index
pub column_at : (earlier : List (List ℕ)) (pins : List PinShape) (columns : List Column) (indexes : List ℕ) (k index : ℕ) → AreBound earlier pins columns indexes → slice_get indexes k ≡ Some index
    → (column : Column) × (slice_get columns k ≡ Some column) × IsPinOf pins column index
column_at earlier pins [] [] k index bound e = absurd (cc e)
column_at earlier pins [] (p ∷ indexes) k index bound e = absurd bound
column_at earlier pins (c ∷ columns) [] k index bound e = absurd bound
column_at earlier pins (c ∷ columns) (p ∷ indexes) zero index bound e = (c, refl, subst (IsPinOf pins c) (same_Some p index e) bound.1)
column_at earlier pins (c ∷ columns) (p ∷ indexes) (suc k) index bound e = column_at (earlier ++ c.name ∷ []) pins columns indexes k index bound.2 e

-- the index of a column
pub index_at : (earlier : List (List ℕ)) (pins : List PinShape) (columns : List Column) (indexes : List ℕ) (k : ℕ) (column : Column) → AreBound earlier pins columns indexes → slice_get columns k ≡ Some column
    → (index : ℕ) × (slice_get indexes k ≡ Some index) × IsPinOf pins column index
index_at earlier pins [] [] k column bound e = absurd (cc e)
index_at earlier pins [] (p ∷ indexes) k column bound e = absurd bound
index_at earlier pins (c ∷ columns) [] k column bound e = absurd bound
index_at earlier pins (c ∷ columns) (p ∷ indexes) zero column bound e = (p, refl, subst (λ (c : Column). IsPinOf pins c p) (same_Some c column e) bound.1)
index_at earlier pins (c ∷ columns) (p ∷ indexes) (suc k) column bound e = index_at (earlier ++ c.name ∷ []) pins columns indexes k column bound.2 e

-- no column has an earlier name
fresh_at : (earlier : List (List ℕ)) (pins : List PinShape) (columns : List Column) (indexes : List ℕ) (k : ℕ) (column : Column) → AreBound earlier pins columns indexes → slice_get columns k ≡ Some column
    → has_name earlier column.name ≡ false
fresh_at earlier pins [] [] k column bound e = absurd (cc e)
fresh_at earlier pins [] (p ∷ indexes) k column bound e = absurd bound
fresh_at earlier pins (c ∷ columns) [] k column bound e = absurd bound
fresh_at earlier pins (c ∷ columns) (p ∷ indexes) zero column bound e = ap (λ (c : Column). has_name earlier c.name) (sym (same_Some c column e)) ∙ bound.0
fresh_at earlier pins (c ∷ columns) (p ∷ indexes) (suc k) column bound e = (less_names earlier c.name column.name (fresh_at (earlier ++ c.name ∷ []) pins columns indexes k column bound.2 e)).0

-- columns with one name are one column
one_column : (earlier : List (List ℕ)) (pins : List PinShape) (columns : List Column) (indexes : List ℕ) (i j : ℕ) (column other : Column) → AreBound earlier pins columns indexes → slice_get columns i ≡ Some column → slice_get columns j ≡ Some other
    → column.name ≡ other.name → i ≡ j
one_column earlier pins [] [] i j column other bound e f same = absurd (cc e)
one_column earlier pins [] (p ∷ indexes) i j column other bound e f same = absurd bound
one_column earlier pins (c ∷ columns) [] i j column other bound e f same = absurd bound
one_column earlier pins (c ∷ columns) (p ∷ indexes) zero zero column other bound e f same = refl
one_column earlier pins (c ∷ columns) (p ∷ indexes) (suc i) (suc j) column other bound e f same = ap suc (one_column (earlier ++ c.name ∷ []) pins columns indexes i j column other bound.2 e f same)
one_column earlier pins (c ∷ columns) (p ∷ indexes) zero (suc j) column other bound e f same =
    let apart = less_names earlier c.name other.name (fresh_at (earlier ++ c.name ∷ []) pins columns indexes j other bound.2 f) in
    let named : other.name ≡ c.name = sym same ∙ sym (ap (λ (c : Column). c.name) (same_Some c column e)) in
    absurd (false≢true (sym apart.1 ∙ (bytes_eq-Decides other.name c.name).1 named))
one_column earlier pins (c ∷ columns) (p ∷ indexes) (suc i) zero column other bound e f same =
    let apart = less_names earlier c.name column.name (fresh_at (earlier ++ c.name ∷ []) pins columns indexes i column bound.2 e) in
    let named : column.name ≡ c.name = same ∙ sym (ap (λ (c : Column). c.name) (same_Some c other f)) in
    absurd (false≢true (sym apart.1 ∙ (bytes_eq-Decides column.name c.name).1 named))

-- the indexes that columns are bound to are below the number of pins and differ
pub are_indexes : (pins : List PinShape) (columns : List Column) (indexes : List ℕ) → AreBound [] pins columns indexes → AreIndexes (length pins) indexes
are_indexes pins columns indexes bound = record {
  below = λ k index e. let c = column_at [] pins columns indexes k index bound e in slice_get_within pins index c.2.0 c.2.1.stands;
  apart = λ i j index e f.
      let c = column_at [] pins columns indexes i index bound e in
      let d = column_at [] pins columns indexes j index bound f in
      let pin : c.2.0 ≡ d.2.0 = same_Some c.2.0 d.2.0 (sym c.2.1.stands ∙ d.2.1.stands) in
      one_column [] pins columns indexes i j c.0 d.0 bound c.1 d.1 (sym c.2.1.named ∙ (ap (λ (p : PinShape). p.name) pin ∙ d.2.1.named));
}

-- a name among those of columns is that of one
named_column : (columns : List Column) (name : List ℕ) → has_name (column_names columns) name ≡ true → (k : ℕ) × (column : Column) × (slice_get columns k ≡ Some column) × (name ≡ column.name)
named_column [] name e = absurd (cc e)
named_column (c ∷ columns) name e = step (bytes_eq name c.name) refl e (named_column columns name)
  where
    Found : List Column → Type 0
    Found some = (k : ℕ) × (column : Column) × (slice_get some k ≡ Some column) × (name ≡ column.name)

    step : (b : Bool) → bytes_eq name c.name ≡ b → (b || has_name (column_names columns) name) ≡ true → (has_name (column_names columns) name ≡ true → Found columns) → Found (c ∷ columns)
    step true f g rest = (0, c, refl, (bytes_eq-Decides name c.name).0 f)
    step false f g rest = let r = rest g in (suc r.0, r.1, r.2, r.3)

holds_at : {X : Type 0} (P : X → Type 0) (xs : List X) (i : ℕ) (x : X) → All P xs → slice_get xs i ≡ Some x → P x
holds_at P [] i x all e = absurd (cc e)
holds_at P (y ∷ xs) zero x all e = subst P (same_Some y x e) (All-head P y xs all)
holds_at P (y ∷ xs) (suc i) x all e = holds_at P xs i x (All-tail P y xs all) e

-- each pin is that of a column, where every pin has one
pub column_of : (pins : List PinShape) (columns : List Column) (indexes : List ℕ) → IsDistinct bytes_eq (pin_names pins) → AreBound [] pins columns indexes → HaveColumns columns pins → (i : ℕ) (pin : PinShape) → slice_get pins i ≡ Some pin
    → (k : ℕ) × (column : Column) × (slice_get columns k ≡ Some column) × (slice_get indexes k ≡ Some i) × (column.width ≡ pin.width)
column_of pins columns indexes differ bound whole i pin e =
    let c = named_column columns pin.name (holds_at (λ (p : PinShape). has_name (column_names columns) p.name ≡ true) pins i pin whole e) in
    let p = index_at [] pins columns indexes c.0 c.1 bound c.2 in
    let same : p.0 ≡ i = one_pin pins differ p.0 i p.2.0 pin p.2.1.stands e (p.2.1.named ∙ sym c.3) in
    let pins_same : p.2.0 ≡ pin = same_Some p.2.0 pin (sym p.2.1.stands ∙ (ap (slice_get pins) same ∙ e)) in
    (c.0, c.1, c.2, p.1 ∙ ap Some same, sym p.2.2 ∙ ap (λ (p : PinShape). p.width) pins_same)

-- columns are bound to one list of indexes
pub one_binding : (earlier : List (List ℕ)) (pins : List PinShape) (columns : List Column) (indexes others : List ℕ) → IsDistinct bytes_eq (pin_names pins) → AreBound earlier pins columns indexes → AreBound earlier pins columns others → indexes ≡ others
one_binding earlier pins [] [] [] differ bound again = refl
one_binding earlier pins [] [] (q ∷ others) differ bound again = absurd again
one_binding earlier pins [] (p ∷ indexes) others differ bound again = absurd bound
one_binding earlier pins (c ∷ columns) [] others differ bound again = absurd bound
one_binding earlier pins (c ∷ columns) (p ∷ indexes) [] differ bound again = absurd again
one_binding earlier pins (c ∷ columns) (p ∷ indexes) (q ∷ others) differ bound again =
    let first : p ≡ q = one_pin pins differ p q bound.1.0 again.1.0 bound.1.1.stands again.1.1.stands (bound.1.1.named ∙ sym again.1.1.named) in
    let rest = one_binding (earlier ++ c.name ∷ []) pins columns indexes others differ bound.2 again.2 in
    λ i. first i ∷ rest i

-- a column amid bound ones
amid : (earlier : List (List ℕ)) (pins : List PinShape) (before : List Column) (column : Column) (after : List Column) (indexes : List ℕ) → AreBound earlier pins (before ++ column ∷ after) indexes
    → (has_name (earlier ++ column_names before) column.name ≡ false) × ((index : ℕ) × IsPinOf pins column index)
amid earlier pins [] column after [] bound = absurd bound
amid earlier pins [] column after (p ∷ indexes) bound = (subst (λ (names : List (List ℕ)). has_name names column.name ≡ false) (sym (append-nil earlier)) bound.0, (p, bound.1))
amid earlier pins (c ∷ before) column after [] bound = absurd bound
amid earlier pins (c ∷ before) column after (p ∷ indexes) bound =
    let rest = amid (earlier ++ c.name ∷ []) pins before column after indexes bound.2 in
    (subst (λ (names : List (List ℕ)). has_name names column.name ≡ false) (append_assoc earlier (c.name ∷ []) (column_names before)) rest.0, rest.1)

-- columns that are bound have no fault
pub bound_sound : (pins : List PinShape) (columns : List Column) (indexes : List ℕ) (fault : VectorFault) → IsDistinct bytes_eq (pin_names pins) → AreBound [] pins columns indexes → IsBindFault pins columns fault → ⊥
bound_sound pins columns indexes fault differ bound bad =
    let here = amid [] pins bad.before bad.column bad.after indexes (subst (λ (some : List Column). AreBound [] pins some indexes) bad.parts bound) in
    by fault here.0 here.1.0 here.1.1 bad.bad
  where
    by : (fault : VectorFault) → has_name (column_names bad.before) bad.column.name ≡ false → (index : ℕ) → IsPinOf pins bad.column index → IsColumnFault (column_names bad.before) pins bad.column fault → ⊥
    by (vector.PinClash name) fresh index pin (e, f) = false≢true (sym fresh ∙ f)
    by (vector.NoPin name) fresh index pin (e, f, g) = false≢true (sym g ∙ pin_known pins index pin.0 bad.column.name pin.1.stands pin.1.named)
      where
        pin_known : (pins : List PinShape) (index : ℕ) (pin : PinShape) (name : List ℕ) → slice_get pins index ≡ Some pin → pin.name ≡ name → has_name (pin_names pins) name ≡ true
        pin_known pins index pin name stands named = any_passes_from_place (bytes_eq name) (pin_names pins) index pin.name (pin_named pins index pin stands) ((bytes_eq-Decides name pin.name).1 (sym named))
    by (vector.PinWidth name) fresh index pin (e, f, found) =
        let same = one_pin pins differ index found.0 pin.0 found.1 pin.1.stands found.2.stands (pin.1.named ∙ sym found.2.named) in
        let pins_same : pin.0 ≡ found.1 = same_Some pin.0 found.1 (sym pin.1.stands ∙ (ap (slice_get pins) same ∙ found.2.stands)) in
        found.3 (sym (ap (λ (p : PinShape). p.width) pins_same) ∙ pin.2)
    by (vector.NotVector line) fresh index pin bad = absurd bad
    by (vector.MissingPin name) fresh index pin bad = absurd bad
    by vector.TooManyRows fresh index pin bad = absurd bad
    by vector.Memory fresh index pin bad = absurd bad

-- where every pin has a column none is missing
pub whole_sound : (pins : List PinShape) (columns : List Column) (fault : VectorFault) → HaveColumns columns pins → IsMissing pins columns fault → ⊥
whole_sound pins columns (vector.MissingPin name) whole (indexes, missing) =
    let has = holds_at (λ (p : PinShape). has_name (column_names columns) p.name ≡ true) pins (length missing.before) missing.pin whole (ap (λ (some : List PinShape). slice_get some (length missing.before)) missing.parts ∙ behind missing.before missing.pin missing.after) in
    false≢true (sym missing.without ∙ has)
  where
    behind : (before : List PinShape) (pin : PinShape) (after : List PinShape) → slice_get (before ++ pin ∷ after) (length before) ≡ Some pin
    behind [] pin after = refl
    behind (p ∷ before) pin after = behind before pin after
whole_sound pins columns (vector.NotVector line) whole missing = absurd missing
whole_sound pins columns (vector.NoPin name) whole missing = absurd missing
whole_sound pins columns (vector.PinWidth name) whole missing = absurd missing
whole_sound pins columns (vector.PinClash name) whole missing = absurd missing
whole_sound pins columns vector.TooManyRows whole missing = absurd missing
whole_sound pins columns vector.Memory whole missing = absurd missing
