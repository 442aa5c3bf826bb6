-- What the file of a port table says. Source: RFC 4180 for its records, as the crate `csv` reads them; the fields are this
-- project's.
use Rattle.std.specs.Prelude.{ℕ, ℤ, pos, neg_ℤ, min, ◌^◌, ◌-◌, ◌≡◌, ◌≢◌, ◌≤◌, ◌==◌, ◌&&◌, ◌⊎◌, nat_lt, Bool, true, false, List, [], ◌∷◌, ◌++◌, length, get_or, codes}
use Rattle.std.specs.List.{AllZip, list_any, range_with_len}
use Rattle.std.specs.Int.NonZero.{non_zero_u8_get}
use Rattle.std.specs.Str.{bytes_eq}
use Rattle.csv.specs.Reading.{AreRecords, Reached, default_config, strip_bom}
use Rattle.csv.specs.Records.{AllText}
use Rattle.csv.specs.declared.error.ErrorKind.{ErrorKind}
use Rattle.csv.specs.declared.error.ErrorKind.TheVariants as kind
use Rattle.csv.specs.declared.parser.State.{State}
use Rattle.csv.specs.declared.parser.State.TheVariants as st
use Rattle.lg_memory.specs.Image.{Spells}
use Rattle.lg_kinds.specs.declared.rows.Count.{Count}
use Rattle.lg_kinds.specs.declared.rows.Count.TheVariants.{Inputs, Incoming, Selections, Stages}
use Rattle.lg_kinds.specs.declared.fault.PartFault.{PartFault}
use Rattle.lg_kinds.specs.declared.fault.PartFault.TheVariants.{UnknownKind, BadAttr, BadTable, OutsideLibrary, Memory}
use Rattle.lg_kinds.specs.declared.kind.Kind.{Kind}
use Rattle.lg_kinds.specs.declared.kind.Kind.TheVariants.{Splitter}
use Rattle.lg_kinds.specs.declared.record.Record.{Record}
use Rattle.lg_kinds.specs.declared.record.Record.TheVariants.{Port, Delay, Default, Circuit}
use Rattle.lg_kinds.specs.Rows.{name_at}
use Rattle.lg_kinds.specs.PortTable.{is_same}
use Rattle.lg_kinds.specs.Rows.{Attribute, PortForm}
use Rattle.lg_kinds.specs.Table.{entry, name_of}

-- how often a row stands at most, under any attributes
abbrev pub most_of : Count → ℕ
most_of Inputs = 64
most_of Incoming = 64
most_of Selections = 32
most_of Stages = 64
most_of _ = 1

-- a text is a name that a row gives under some attributes
abbrev pub is_one_of : List ℕ → Count → List ℕ → Bool
is_one_of name count text = list_any (λ k. bytes_eq text (name_at name count k)) (range_with_len 0 (most_of count))

-- a kind has a port of this name under some attributes
abbrev pub has_port : Kind → List ℕ → Bool
has_port kind text = list_any (λ (row : PortForm). is_one_of row.name row.count text) (entry kind).ports

-- a kind has an attribute of this name under some attributes
abbrev pub has_attribute : Kind → List ℕ → Bool
has_attribute kind text = list_any (λ (row : Attribute). is_one_of row.name row.count text) (entry kind).attributes

-- a kind that has an effect has a port
abbrev pub has_effect : Kind → Bool
has_effect kind = nat_lt 0 (length (entry kind).ports)

-- a zero stands in front of other characters
abbrev pub is_padded : List ℕ → Bool
is_padded text = nat_lt 1 (length text) && (get_or text 0 0 == 48)

-- a number in decimal digits, without a zero in front of others
abbrev pub IsNumber : List ℕ → ℕ → Type 0
IsNumber text n = Spells 10 text n × (is_padded text ≡ false)

-- an offset: a number up to 10,000, or one behind `-`
abbrev pub IsOffset : List ℕ → ℤ → Type 0
IsOffset text z =
    (n : ℕ) × (n ≤ 10000) × ((IsNumber text n × (z ≡ pos n)) ⊎ ((digits : List ℕ) × (text ≡ codes "-" ++ digits) × IsNumber digits n × (z ≡ neg_ℤ (pos n))))

-- a delay: 1 to 255 instants
abbrev pub IsDelay : List ℕ → ℕ → Type 0
IsDelay text n = IsNumber text n × (1 ≤ n) × (n ≤ 255)

-- five fields say what is replaced: a place of a port, a delay, a default of an attribute, or a place of a pin of a sheet
abbrev pub HasForm : List (List ℕ) → Record → Type 0
HasForm fields (Port kind port dx dy) =
    (a b : List ℕ) × (fields ≡ codes "port" ∷ name_of kind ∷ port ∷ a ∷ b ∷ []) × (is_same kind Splitter ≡ false) × (has_port kind port ≡ true) × IsOffset a dx × IsOffset b dy
HasForm fields (Delay kind instants) =
    (a : List ℕ) × (fields ≡ codes "delay" ∷ name_of kind ∷ [] ∷ a ∷ [] ∷ []) × (has_effect kind ≡ true) × IsDelay a (non_zero_u8_get instants)
HasForm fields (Default kind attribute value) =
    (fields ≡ codes "default" ∷ name_of kind ∷ attribute ∷ value ∷ [] ∷ []) × (has_attribute kind attribute ≡ true)
HasForm fields (Circuit sheet pin dx dy) =
    (a b : List ℕ) × (fields ≡ codes "circuit" ∷ sheet ∷ pin ∷ a ∷ b ∷ []) × IsOffset a dx × IsOffset b dy

-- the fields are text and say this
abbrev pub Says : List (List ℕ) → Record → Type 0
Says fields said = AllText fields × HasForm fields said

-- the header
abbrev pub heading : List (List ℕ)
heading = codes "row" ∷ codes "name" ∷ codes "item" ∷ codes "a" ∷ codes "b" ∷ []

-- rows are the header and then rows that say these records, as far as they go
abbrev pub SayRecords : List (List (List ℕ)) → List Record → Type 0
SayRecords [] records = records ≡ []
SayRecords (header ∷ rows) records = (header ≡ heading) × AllZip Says rows records

-- a row behind those is out of form: as a first one it is not the header, as a later one it says nothing
abbrev pub IsOutOfForm : List (List (List ℕ)) → List (List ℕ) → Type 0
IsOutOfForm [] row = row ≢ heading
IsOutOfForm (header ∷ rows) row = (said : Record) → Says row said → ⊥

-- these are all rows of the bytes
abbrev pub AreRows : List ℕ → List (List (List ℕ)) → Type 0
AreRows bytes rows = AreRecords default_config st.StartRecord (strip_bom bytes) rows

-- these are the first rows of the bytes
abbrev pub AreFirstRows : List ℕ → List (List (List ℕ)) → Type 0
AreFirstRows bytes rows = (s : State) × (rest : List ℕ) × Reached default_config st.StartRecord (strip_bom bytes) rows s rest

-- the bytes are the file of a port table: its header and these records
abbrev pub IsTableFile : List ℕ → List Record → Type 0
IsTableFile bytes records = (rows : List (List (List ℕ))) × AreRows bytes rows × (1 ≤ length rows) × SayRecords rows records

-- the first row out of form has this number, the header being 0; a number above those of 32 bits is the greatest of them
pub record IsBadRow (bytes : List ℕ) (number : ℕ) : Type 0 where
  pub rows : List (List (List ℕ))
  pub bad : List (List ℕ)
  pub records : List Record
  pub first : AreFirstRows bytes (rows ++ bad ∷ [])
  pub said : SayRecords rows records
  pub out : IsOutOfForm rows bad
  pub numbered : number ≡ min (length rows) (2 ^ 32 - 1)

-- what a row is answered with that cannot be read: it is no text, or there was no memory
abbrev pub fault_at : ErrorKind → ℕ → PartFault
fault_at (kind.Utf8 place err) number = BadTable number
fault_at (kind.Io e) number = Memory
fault_at (kind.UnequalLengths place expected len) number = Memory
fault_at (kind.Serialize text) number = Memory
fault_at (kind.Deserialize place err) number = Memory
fault_at kind.OutOfMemory number = Memory

-- bytes are refused: there is no header, a row is out of form, or there is no memory
abbrev pub RefusesTable : List ℕ → PartFault → Type 0
RefusesTable bytes (BadTable number) = (AreRows bytes [] × (number ≡ 0)) ⊎ IsBadRow bytes number
RefusesTable bytes Memory = Unit
RefusesTable bytes (UnknownKind name) = ⊥
RefusesTable bytes (BadAttr name value) = ⊥
RefusesTable bytes (OutsideLibrary lib) = ⊥
