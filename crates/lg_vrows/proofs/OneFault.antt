-- Why a vector is not read or not bound is one thing.
use Rattle.std.proofs.Common.{◌≡◌, ◌≢◌, ℕ, ◌-◌, ◌^◌, ◌≤◌, true, cond, min, ◌⊎◌, inl, inr, List, [], length, Some, refl, sym, ap, ◌∙◌, arith}
use Rattle.std.specs.Prelude.{option_map, slice_get}
use Rattle.std.specs.List.{IsDistinct}
use Rattle.std.specs.Str.{bytes_eq}
use Rattle.std.proofs.lemmas.Bool.{false≢true}
use Rattle.std.proofs.lemmas.Map.Keys.{any_passes_from_place}
use Rattle.std.proofs.lemmas.Option.{slice_get-map}
use Rattle.std.proofs.lemmas.Slice.Eq.{bytes_eq-Decides}
use Rattle.lg_vectors.specs.declared.fault.VectorFault.{VectorFault}
use Rattle.lg_vectors.specs.declared.fault.VectorFault.TheVariants as vector
use Rattle.lg_vectors.specs.declared.column.Column.{Column}
use Rattle.lg_vectors.specs.declared.pin.PinShape.{PinShape}
use Rattle.lg_vectors.specs.Binding.{column_names, pin_names, has_name, AreBound, IsColumnFault, IsBindFault, IsFirstWithout, IsMissing}
use Rattle.lg_vectors.specs.ReadFault.{HasMoreRows, IsReadFault}
use Rattle.lg_vectors.specs.VectorText.{IsVectorText, IsFirstOutside}
use Rattle.lg_vrows.proofs.BoundLemmas.{bound_sound}
use Rattle.lg_vrows.proofs.FirstLemmas.{Cuts, cut_twice, one_first}
use Rattle.lg_vrows.proofs.OneVector.{Row, one_vector, outside_no_vector, one_outside}

-- reading

-- bytes have a line outside the form, the first of which has this number
abbrev IsOutside : List ℕ → VectorFault → Type 0
IsOutside bytes fault = (number : ℕ) × IsFirstOutside bytes number × (fault ≡ vector.NotVector (min number (2 ^ 32 - 1)))

read_kind : (bytes : List ℕ) (fault : VectorFault) → fault ≢ vector.Memory → IsReadFault 65536 bytes fault → IsOutside bytes fault ⊎ ((fault ≡ vector.TooManyRows) × HasMoreRows 65536 bytes)
read_kind bytes (vector.NotVector line) p h = inl (h.0, h.1, ap vector.NotVector h.2)
read_kind bytes vector.TooManyRows p h = inr (refl, h)
read_kind bytes vector.Memory p h = absurd (p refl)
read_kind bytes (vector.NoPin name) p h = absurd h
read_kind bytes (vector.PinWidth name) p h = absurd h
read_kind bytes (vector.PinClash name) p h = absurd h
read_kind bytes (vector.MissingPin name) p h = absurd h

-- bytes are not read for one reason
pub one_read : (bytes : List ℕ) (fault other : VectorFault) → fault ≢ vector.Memory → other ≢ vector.Memory → IsReadFault 65536 bytes fault → IsReadFault 65536 bytes other → fault ≡ other
one_read bytes fault other p q h k = by_kind (read_kind bytes fault p h) (read_kind bytes other q k)
  where
    by_kind : IsOutside bytes fault ⊎ ((fault ≡ vector.TooManyRows) × HasMoreRows 65536 bytes) → IsOutside bytes other ⊎ ((other ≡ vector.TooManyRows) × HasMoreRows 65536 bytes) → fault ≡ other
    by_kind (inl a) (inl b) = a.2 ∙ (ap (λ (n : ℕ). vector.NotVector (min n (2 ^ 32 - 1))) (one_outside bytes a.0 b.0 a.1 b.1) ∙ sym b.2)
    by_kind (inl a) (inr b) = absurd (outside_no_vector bytes a.0 b.1.0 b.1.1 a.1 b.1.2)
    by_kind (inr a) (inl b) = absurd (outside_no_vector bytes b.0 a.1.0 a.1.1 b.1 a.1.2)
    by_kind (inr a) (inr b) = a.0 ∙ sym b.0

-- bytes of a vector of few rows are read
pub read_sound : (bytes : List ℕ) (columns : List Column) (rows : List Row) (fault : VectorFault) → fault ≢ vector.Memory → IsReadFault 65536 bytes fault → IsVectorText bytes columns rows → length rows ≤ 65536 → ⊥
read_sound bytes columns rows fault p h says few = by_kind (read_kind bytes fault p h)
  where
    by_kind : IsOutside bytes fault ⊎ ((fault ≡ vector.TooManyRows) × HasMoreRows 65536 bytes) → ⊥
    by_kind (inl a) = outside_no_vector bytes a.0 columns rows a.1 says
    by_kind (inr a) =
        let same : length rows ≡ length a.1.1 = ap length (one_vector bytes columns a.1.0 rows a.1.1 says a.1.2).1 in
        omega (arith, same, few, a.1.3)

-- binding

-- a pin's name is among those of pins
pin_known : (pins : List PinShape) (index : ℕ) (pin : PinShape) (name : List ℕ) → slice_get pins index ≡ Some pin → pin.name ≡ name → has_name (pin_names pins) name ≡ true
pin_known pins index pin name stands named =
    any_passes_from_place (bytes_eq name) (pin_names pins) index pin.name (slice_get-map (λ (p : PinShape). p.name) pins index ∙ ap (option_map (λ (p : PinShape). p.name)) stands)
    ((bytes_eq-Decides name pin.name).1 (sym named))

-- the one fault that a column can have
abbrev the_fault : List (List ℕ) → List PinShape → List ℕ → VectorFault
the_fault earlier pins name = cond (has_name earlier name) (vector.PinClash name) (cond (has_name (pin_names pins) name) (vector.PinWidth name) (vector.NoPin name))

column_fault : (earlier : List (List ℕ)) (pins : List PinShape) (column : Column) (fault : VectorFault) → IsColumnFault earlier pins column fault → fault ≡ the_fault earlier pins column.name
column_fault earlier pins column (vector.PinClash name) (e, f) = rw f (ap vector.PinClash e)
column_fault earlier pins column (vector.NoPin name) (e, f, g) = rw (f, g) (ap vector.NoPin e)
column_fault earlier pins column (vector.PinWidth name) (e, f, found) =
    let known : has_name (pin_names pins) column.name ≡ true = pin_known pins found.0 found.1 column.name found.2.stands found.2.named in
    rw (f, known) (ap vector.PinWidth e)
column_fault earlier pins column (vector.NotVector line) bad = absurd bad
column_fault earlier pins column (vector.MissingPin name) bad = absurd bad
column_fault earlier pins column vector.TooManyRows bad = absurd bad
column_fault earlier pins column vector.Memory bad = absurd bad

-- columns are not bound for one reason
one_bind_fault : (pins : List PinShape) (columns : List Column) (fault other : VectorFault) → IsDistinct bytes_eq (pin_names pins) → IsBindFault pins columns fault → IsBindFault pins columns other → fault ≡ other
one_bind_fault pins columns fault other differ h k = by_cut (cut_twice h.before k.before h.after k.after h.column k.column (sym h.parts ∙ k.parts))
  where
    by_cut : Cuts h.before k.before h.column k.column → fault ≡ other
    by_cut (inl same) =
        column_fault (column_names h.before) pins h.column fault h.bad
        ∙ ((λ i. the_fault (column_names (same.0 i)) pins (same.1 i).name) ∙ sym (column_fault (column_names k.before) pins k.column other k.bad))
    by_cut (inr (inl on)) =
        absurd (bound_sound pins k.before k.places fault differ k.bound (record { before = h.before; column = h.column; after = on.0; places = h.places; parts = on.1; bound = h.bound; bad = h.bad }))
    by_cut (inr (inr on)) =
        absurd (bound_sound pins h.before h.places other differ h.bound (record { before = k.before; column = k.column; after = on.0; places = k.places; parts = on.1; bound = k.bound; bad = k.bad }))

-- what is missing is the pin of a name
missing_pin : (pins : List PinShape) (columns : List Column) (fault : VectorFault) → IsMissing pins columns fault → (name : List ℕ) × (fault ≡ vector.MissingPin name) × IsFirstWithout columns pins name × ((indexes : List ℕ) × AreBound [] pins columns indexes)
missing_pin pins columns (vector.MissingPin name) h = (name, refl, h.1, h.0)
missing_pin pins columns (vector.NotVector line) h = absurd h
missing_pin pins columns (vector.NoPin name) h = absurd h
missing_pin pins columns (vector.PinWidth name) h = absurd h
missing_pin pins columns (vector.PinClash name) h = absurd h
missing_pin pins columns vector.TooManyRows h = absurd h
missing_pin pins columns vector.Memory h = absurd h

-- and it is one
one_missing : (pins : List PinShape) (columns : List Column) (fault other : VectorFault) → IsMissing pins columns fault → IsMissing pins columns other → fault ≡ other
one_missing pins columns fault other h k =
    let a = missing_pin pins columns fault h in
    let b = missing_pin pins columns other k in
    let first = a.2 in
    let second = b.2 in
    let same =
    one_first (λ (p : PinShape). has_name (column_names columns) p.name ≡ true) pins first.before second.before first.after second.after first.pin second.pin first.parts second.parts first.have second.have
    (λ e. false≢true (sym first.without ∙ e)) (λ e. false≢true (sym second.without ∙ e)) in
    a.1 ∙ (ap vector.MissingPin (first.named ∙ (ap (λ (p : PinShape). p.name) same.1 ∙ sym second.named)) ∙ sym b.1)

-- the columns of pins that differ are not bound, or leave a pin without, for one reason
pub one_unbound : (pins : List PinShape) (columns : List Column) (fault other : VectorFault) → IsDistinct bytes_eq (pin_names pins)
    → IsBindFault pins columns fault ⊎ IsMissing pins columns fault → IsBindFault pins columns other ⊎ IsMissing pins columns other → fault ≡ other
one_unbound pins columns fault other differ (inl h) (inl k) = one_bind_fault pins columns fault other differ h k
one_unbound pins columns fault other differ (inl h) (inr k) =
    let b = (missing_pin pins columns other k).3 in
    absurd (bound_sound pins columns b.0 fault differ b.1 h)
one_unbound pins columns fault other differ (inr h) (inl k) =
    let b = (missing_pin pins columns fault h).3 in
    absurd (bound_sound pins columns b.0 other differ b.1 k)
one_unbound pins columns fault other differ (inr h) (inr k) = one_missing pins columns fault other h k
