-- Whether columns are bound to pins can be told, and where they are not, why.
use Rattle.std.proofs.Common.{◌≡◌, ℕ, suc, Bool, true, false, List, [], ◌∷◌, ◌++◌, refl, sym, ap, subst, ◌⊎◌, inl, inr}
use Rattle.std.specs.Prelude.{◌≢◌, All}
use Rattle.std.specs.Str.{bytes_eq}
use Rattle.std.proofs.lemmas.List.{append-nil, append_assoc}
use Rattle.std.proofs.lemmas.Slice.Eq.{bytes_eq-Decides}
use Rattle.lg_text.proofs.Deciding.{Decided, passes, failing, equal, all_or_first, FirstLacking}
use Rattle.lg_vectors.specs.declared.column.Column.{Column}
use Rattle.lg_vectors.specs.declared.fault.VectorFault.{VectorFault}
use Rattle.lg_vectors.specs.declared.fault.VectorFault.TheVariants.{NoPin, PinWidth, PinClash, MissingPin, Memory}
use Rattle.lg_vectors.specs.declared.pin.PinShape.{PinShape}
use Rattle.lg_vectors.specs.Binding.{column_names, pin_names, has_name, IsNamesake, IsPinOf, AreBound, IsColumnFault, IsBindFault, HaveColumns, IsMissing}

-- a pin of a name stands somewhere, where the name is among those of the pins
namesake : (pins : List PinShape) (column : Column) → has_name (pin_names pins) column.name ≡ true → (place : ℕ) × (pin : PinShape) × IsNamesake pins column place pin
namesake [] column e = absurd (cc e)
namesake (pin ∷ pins) column e = step (bytes_eq column.name pin.name) refl (λ more. namesake pins column more)
  where
    later : ((place : ℕ) × (other : PinShape) × IsNamesake pins column place other) → (place : ℕ) × (other : PinShape) × IsNamesake (pin ∷ pins) column place other
    later (place, other, is) = (suc place, other, record { stands = is.stands; named = is.named })

    step : (b : Bool) → bytes_eq column.name pin.name ≡ b → (has_name (pin_names pins) column.name ≡ true → (place : ℕ) × (other : PinShape) × IsNamesake pins column place other) → (place : ℕ) × (other : PinShape) × IsNamesake (pin ∷ pins) column place other
    step true f more = (0, pin, record { stands = refl; named = sym ((bytes_eq-Decides column.name pin.name).0 f) })
    step false f more = later (more (rw f at e))

-- a column behind earlier names has its pin, or a fault
abbrev Told : List (List ℕ) → List PinShape → Column → Type 0
Told earlier pins column =
    ((has_name earlier column.name ≡ false) × ((place : ℕ) × IsPinOf pins column place))
    ⊎ ((fault : VectorFault) × (fault ≢ Memory) × IsColumnFault earlier pins column fault)

column_told : (earlier : List (List ℕ)) (pins : List PinShape) (column : Column) → Told earlier pins column
column_told earlier pins column = by (passes (has_name earlier column.name)) (passes (has_name (pin_names pins) column.name))
  where
    by_width : has_name earlier column.name ≡ false → (place : ℕ) (pin : PinShape) → IsNamesake pins column place pin → Decided (pin.width ≡ column.width) → Told earlier pins column
    by_width free place pin is (inl e) = inl (free, (place, (pin, is, e)))
    by_width free place pin is (inr never) = inr (PinWidth column.name, (λ e. cc e), (refl, free, (place, pin, is, never)))

    by : Decided (has_name earlier column.name ≡ true) → Decided (has_name (pin_names pins) column.name ≡ true) → Told earlier pins column
    by (inl e) some = inr (PinClash column.name, (λ e. cc e), (refl, e))
    by (inr never) (inr none) = inr (NoPin column.name, (λ e. cc e), (refl, failing (has_name earlier column.name) never, failing (has_name (pin_names pins) column.name) none))
    by (inr never) (inl e) =
        let found = namesake pins column e in
        by_width (failing (has_name earlier column.name) never) found.0 found.1 found.2 (equal found.1.width column.width)

-- why columns behind earlier names are not bound
record FaultBehind (earlier : List (List ℕ)) (pins : List PinShape) (columns : List Column) : Type 0 where
  before : List Column
  column : Column
  after : List Column
  places : List ℕ
  fault : VectorFault
  parts : columns ≡ before ++ column ∷ after
  bound : AreBound earlier pins before places
  some : fault ≢ Memory
  bad : IsColumnFault (earlier ++ column_names before) pins column fault

bound_behind : (earlier : List (List ℕ)) (pins : List PinShape) (columns : List Column) → ((places : List ℕ) × AreBound earlier pins columns places) ⊎ FaultBehind earlier pins columns
bound_behind earlier pins [] = inl ([], tt)
bound_behind earlier pins (column ∷ columns) = join (column_told earlier pins column) (bound_behind (earlier ++ column.name ∷ []) pins columns)
  where
    join : Told earlier pins column → ((places : List ℕ) × AreBound (earlier ++ column.name ∷ []) pins columns places) ⊎ FaultBehind (earlier ++ column.name ∷ []) pins columns
        → ((places : List ℕ) × AreBound earlier pins (column ∷ columns) places) ⊎ FaultBehind earlier pins (column ∷ columns)
    join (inr (fault, some, bad)) more =
        inr (record {
          before = [];
          column = column;
          after = columns;
          places = [];
          fault = fault;
          parts = refl;
          bound = tt;
          some = some;
          bad = subst (λ (names : List (List ℕ)). IsColumnFault names pins column fault) (sym (append-nil earlier)) bad;
        })
    join (inl (free, (place, pin))) (inl (places, bound)) = inl (place ∷ places, (free, pin, bound))
    join (inl (free, (place, pin))) (inr f) =
        inr (record {
          before = column ∷ f.before;
          column = f.column;
          after = f.after;
          places = place ∷ f.places;
          fault = f.fault;
          parts = ap (λ (l : List Column). column ∷ l) f.parts;
          bound = (free, pin, f.bound);
          some = f.some;
          bad = subst (λ (names : List (List ℕ)). IsColumnFault names pins f.column f.fault) (append_assoc earlier (column.name ∷ []) (column_names f.before)) f.bad;
        })

-- columns are bound, each pin with one, or there is a reason why not
pub bound_or_not : (pins : List PinShape) (columns : List Column) → ((places : List ℕ) × AreBound [] pins columns places × HaveColumns columns pins)
    ⊎ ((fault : VectorFault) × (fault ≢ Memory) × (IsBindFault pins columns fault ⊎ IsMissing pins columns fault))
bound_or_not pins columns = by (bound_behind [] pins columns) (all_or_first Has (λ p. passes (has_name (column_names columns) p.name)) pins)
  where
    Has : PinShape → Type 0
    Has pin = has_name (column_names columns) pin.name ≡ true

    by : ((places : List ℕ) × AreBound [] pins columns places) ⊎ FaultBehind [] pins columns → All Has pins ⊎ FirstLacking Has pins
        → ((places : List ℕ) × AreBound [] pins columns places × HaveColumns columns pins)
        ⊎ ((fault : VectorFault) × (fault ≢ Memory) × (IsBindFault pins columns fault ⊎ IsMissing pins columns fault))
    by (inr f) have =
        inr (f.fault, f.some, inl (record { before = f.before; column = f.column; after = f.after; places = f.places; parts = f.parts; bound = f.bound; bad = f.bad }))
    by (inl (places, bound)) (inl have) = inl (places, bound, have)
    by (inl bound) (inr f) =
        inr (
          MissingPin f.here.name,
          (λ e. cc e),
          inr (
            bound,
            record {
              before = f.before;
              pin = f.here;
              after = f.after;
              parts = f.parts;
              named = refl;
              have = f.have;
              without = failing (has_name (column_names columns) f.here.name) f.lacks;
            },
          ),
        )
