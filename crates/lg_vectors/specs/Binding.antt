-- Which pin each column of a vector belongs to, and what stands against it. Source: the Logisim-evolution user guide,
-- Test Vector: columns are named after pins.
use Rattle.std.specs.Prelude.{◌≡◌, ℕ, ◌≢◌, Bool, true, false, List, [], ◌∷◌, ◌++◌, map, slice_get, Some, All}
use Rattle.std.specs.List.{list_any}
use Rattle.std.specs.Str.{bytes_eq}
use Rattle.lg_vectors.specs.declared.fault.VectorFault.{VectorFault}
use Rattle.lg_vectors.specs.declared.fault.VectorFault.TheVariants.{NoPin, PinWidth, PinClash, MissingPin}
use Rattle.lg_vectors.specs.declared.pin.PinShape.{PinShape}
use Rattle.lg_vectors.specs.declared.column.Column.{Column}

-- the names of columns, in order
abbrev pub column_names : List Column → List (List ℕ)
column_names columns = map (λ c. c.name) columns

-- the names of pins, in order
abbrev pub pin_names : List PinShape → List (List ℕ)
pin_names pins = map (λ p. p.name) pins

-- the name is among those
abbrev pub has_name : List (List ℕ) → List ℕ → Bool
has_name names name = list_any (bytes_eq name) names

-- the pin that stands at a place has a column's name
pub record IsNamesake (pins : List PinShape) (column : Column) (place : ℕ) (pin : PinShape) : Type 0 where
  pub stands : slice_get pins place ≡ Some pin
  pub named : pin.name ≡ column.name

-- the pin at a place is a column's: it has the column's name and width
abbrev pub IsPinOf : List PinShape → Column → ℕ → Type 0
IsPinOf pins column place = (pin : PinShape) × IsNamesake pins column place pin × (pin.width ≡ column.width)

-- columns behind earlier names are bound to the pins at these places: each to its own, and no name comes again
abbrev pub AreBound : List (List ℕ) → List PinShape → List Column → List ℕ → Type 0
AreBound earlier pins [] [] = Unit {0}
AreBound earlier pins (column ∷ columns) (place ∷ places) =
    (has_name earlier column.name ≡ false) × IsPinOf pins column place × AreBound (earlier ++ column.name ∷ []) pins columns places
AreBound earlier pins _ _ = ⊥

-- why a column behind earlier names is not bound: the first of these that holds
abbrev pub IsColumnFault : List (List ℕ) → List PinShape → Column → VectorFault → Type 0
IsColumnFault earlier pins column (PinClash name) = (name ≡ column.name) × (has_name earlier column.name ≡ true)
IsColumnFault earlier pins column (NoPin name) =
    (name ≡ column.name) × (has_name earlier column.name ≡ false) × (has_name (pin_names pins) column.name ≡ false)
IsColumnFault earlier pins column (PinWidth name) =
    (name ≡ column.name) × (has_name earlier column.name ≡ false)
    × ((place : ℕ) × (pin : PinShape) × IsNamesake pins column place pin × (pin.width ≢ column.width))
IsColumnFault earlier pins column _ = ⊥

-- why columns are not bound: the columns before are, and the next is not
pub record IsBindFault (pins : List PinShape) (columns : List Column) (fault : VectorFault) : Type 0 where
  pub before : List Column
  pub column : Column
  pub after : List Column
  pub places : List ℕ
  pub parts : columns ≡ before ++ column ∷ after
  pub bound : AreBound [] pins before places
  pub bad : IsColumnFault (column_names before) pins column fault

-- every one of these pins has a column
abbrev pub HaveColumns : List Column → List PinShape → Type 0
HaveColumns columns pins = All (λ p. has_name (column_names columns) p.name ≡ true) pins

-- the first pin without a column has this name
pub record IsFirstWithout (columns : List Column) (pins : List PinShape) (name : List ℕ) : Type 0 where
  pub before : List PinShape
  pub pin : PinShape
  pub after : List PinShape
  pub parts : pins ≡ before ++ pin ∷ after
  pub named : name ≡ pin.name
  pub have : HaveColumns columns before
  pub without : has_name (column_names columns) pin.name ≡ false

-- columns are bound, and a pin has none
abbrev pub IsMissing : List PinShape → List Column → VectorFault → Type 0
IsMissing pins columns (MissingPin name) = ((places : List ℕ) × AreBound [] pins columns places) × IsFirstWithout columns pins name
IsMissing pins columns _ = ⊥
