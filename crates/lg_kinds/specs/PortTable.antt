-- What the records of a port table replace: of those for one thing the last counts. Source: this project's file of
-- places, delays and defaults.
use Rattle.std.specs.Prelude.{ℕ, ℤ, pos, neg_ℤ, int_le, ◌^◌, ◌-◌, min, Bool, true, ◌&&◌, List, [], ◌∷◌, Option, Some, None, if◌then◌else◌}
use Rattle.std.specs.List.{filter_map}
use Rattle.std.specs.Option.{option_or}
use Rattle.std.specs.Set.{distinct_count}
use Rattle.std.specs.Str.{bytes_eq}
use Rattle.std.specs.declared.num.NonZeroU8.{NonZeroU8}
use Rattle.lg_kinds.specs.declared.kind.Kind.{Kind}
use Rattle.lg_kinds.specs.declared.record.Record.{Record}
use Rattle.lg_kinds.specs.declared.record.Record.TheVariants.{Port, Delay, Default, Circuit}
use Rattle.lg_kinds.specs.Table.{name_of}

-- what the last element gives that gives something
abbrev pub last_given : {A B : Type 0} → (A → Option B) → List A → Option B
last_given f [] = None
last_given f (x ∷ xs) = option_or (last_given f xs) (f x)

-- two kinds are the same, told by their names, which differ
abbrev pub is_same : Kind → Kind → Bool
is_same a b = bytes_eq (name_of a) (name_of b)

-- the value that a record gives an attribute of a kind where it is left out
abbrev pub default_in : Kind → List ℕ → Record → Option (List ℕ)
default_in kind name (Default of attribute value) = if is_same of kind && bytes_eq attribute name then Some value else None
default_in kind name _ = None

-- the place that a record gives a port of a kind
abbrev pub place_in : Kind → List ℕ → Record → Option (ℤ × ℤ)
place_in kind name (Port of port dx dy) = if is_same of kind && bytes_eq port name then Some (dx, dy) else None
place_in kind name _ = None

-- the delay that a record gives a kind
abbrev pub delay_in : Kind → Record → Option NonZeroU8
delay_in kind (Delay of instants) = if is_same of kind then Some instants else None
delay_in kind _ = None

-- the value of the last record that gives the attribute of the kind a default
abbrev pub default_of : List Record → Kind → List ℕ → Option (List ℕ)
default_of records kind name = last_given (default_in kind name) records

-- the place of the last record that moves the port of the kind
abbrev pub place_of : List Record → Kind → List ℕ → Option (ℤ × ℤ)
place_of records kind name = last_given (place_in kind name) records

-- the delay that the last record for the kind's delay gives it
abbrev pub delay_in_table : List Record → Kind → Option NonZeroU8
delay_in_table records kind = last_given (delay_in kind) records

-- the place that a record gives a pin at the uses of a sheet
abbrev pub circuit_in : List ℕ → List ℕ → Record → Option (ℤ × ℤ)
circuit_in sheet pin (Circuit of name dx dy) = if bytes_eq of sheet && bytes_eq name pin then Some (dx, dy) else None
circuit_in sheet pin _ = None

-- the place that the last record for the pin gives it at the uses of the sheet
abbrev pub sheet_row : List Record → List ℕ → List ℕ → Option (ℤ × ℤ)
sheet_row records sheet pin = last_given (circuit_in sheet pin) records

-- the pin that a record moves at the uses of a sheet
abbrev pub pin_in : List ℕ → Record → Option (List ℕ)
pin_in sheet (Circuit of name dx dy) = if bytes_eq of sheet then Some name else None
pin_in sheet _ = None

-- the pins that the records move at the uses of a sheet, one a record
abbrev pub pins_of : List Record → List ℕ → List (List ℕ)
pins_of records sheet = filter_map (pin_in sheet) records

-- how many different pins the records move at the uses of a sheet, or the greatest count of 32 bits where there are more
abbrev pub sheet_rows : List Record → List ℕ → ℕ
sheet_rows records sheet = min (distinct_count bytes_eq (pins_of records sheet)) (2 ^ 32 - 1)

-- an offset is so long at most, in either direction
abbrev pub is_within : ℕ → ℤ → Bool
is_within most offset = int_le (neg_ℤ (pos most)) offset && int_le offset (pos most)

-- what a record moves, it moves by 10,000 at most in each direction
abbrev pub is_near : Record → Bool
is_near (Port kind port dx dy) = is_within 10000 dx && is_within 10000 dy
is_near (Delay kind instants) = true
is_near (Default kind attribute value) = true
is_near (Circuit sheet pin dx dy) = is_within 10000 dx && is_within 10000 dy
