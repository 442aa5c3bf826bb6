-- The first attribute of a component, in the order of its kind's table, whose value is out of its range.
use Rattle.std.specs.Prelude.{ℕ, ◌≡◌, ◌<◌, ◌⊎◌, List, ◌∷◌, ◌++◌, Some, All}
use Rattle.std.specs.Option.{ForSome}
use Rattle.lg_kinds.specs.declared.fault.PartFault.{PartFault}
use Rattle.lg_kinds.specs.declared.fault.PartFault.TheVariants.{BadAttr, Memory}
use Rattle.lg_ports.specs.Given.{Given, count_of, value_of}
use Rattle.lg_ports.specs.Ranges.{InRange}
use Rattle.lg_kinds.specs.Rows.{Attribute, name_at}
use Rattle.lg_kinds.specs.Table.{entry}

-- attribute number k of a row is left out, or its value is in its range
abbrev pub EntryFits : Given → Attribute → ℕ → Type 0
EntryFits given row k = ForSome (value_of given row (name_at row.name row.count k)) (InRange given row.range)

-- each attribute of a row does so
abbrev pub RowFits : Given → Attribute → Type 0
RowFits given row = (k : ℕ) → k < count_of given row.count → EntryFits given row k

-- each attribute of the kind does so
abbrev pub AllFit : Given → Type 0
AllFit given = All (RowFits given) (entry given.kind).attributes

-- attribute number k of a row, by name, has a value that is out of its range
pub record IsBadAt (given : Given) (row : Attribute) (k : ℕ) (name value : List ℕ) : Type 0 where
  pub named : name ≡ name_at row.name row.count k
  pub valued : value_of given row name ≡ Some value
  pub outside : InRange given row.range value → ⊥

-- the first attribute of a row that is out of its range, with its value
pub record IsFirstIn (given : Given) (row : Attribute) (name value : List ℕ) : Type 0 where
  pub k : ℕ
  pub inside : k < count_of given row.count
  pub earlier : (j : ℕ) → j < k → EntryFits given row j
  pub bad : IsBadAt given row k name value

-- the first attribute of the kind that is out of its range, with its value
pub record IsFirstBad (given : Given) (name value : List ℕ) : Type 0 where
  pub before : List Attribute
  pub row : Attribute
  pub behind : List Attribute
  pub rows : (entry given.kind).attributes ≡ before ++ row ∷ behind
  pub fit : All (RowFits given) before
  pub first : IsFirstIn given row name value

-- an attribute is refused: for its value, or for want of memory
abbrev pub RefusesAt : Given → Attribute → ℕ → PartFault → Type 0
RefusesAt given row k fault =
    (fault ≡ Memory) ⊎ ((name value : List ℕ) × (fault ≡ BadAttr name value) × IsBadAt given row k name value)

-- a row is refused: for its first attribute that is out of its range, or for want of memory
abbrev pub RefusesIn : Given → Attribute → PartFault → Type 0
RefusesIn given row fault =
    (fault ≡ Memory) ⊎ ((name value : List ℕ) × (fault ≡ BadAttr name value) × IsFirstIn given row name value)

-- a component is refused: for its first attribute that is out of its range, or for want of memory
abbrev pub Refuses : Given → PartFault → Type 0
Refuses given fault =
    (fault ≡ Memory) ⊎ ((name value : List ℕ) × (fault ≡ BadAttr name value) × IsFirstBad given name value)
