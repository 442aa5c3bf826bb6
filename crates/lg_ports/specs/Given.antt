-- The values that the attributes of a component have, and how often the rows of the table stand for it.
use Rattle.std.specs.Prelude.{ℕ, ◌^◌, min, Bool, false, not, ◌&&◌, List, [], length, Option, Some, None, find, unwrap_or, nat_le, nat_lt, if◌then◌else◌, codes}
use Rattle.std.specs.List.{list_all}
use Rattle.std.specs.Option.{option_or, option_and_then, option_map_or}
use Rattle.std.specs.Str.{bytes_eq}
use Rattle.lg_memory.specs.Image.{digit_value, number_in}
use Rattle.lg_kinds.specs.declared.kind.Kind.{Kind}
use Rattle.lg_kinds.specs.declared.record.Record.{Record}
use Rattle.lg_ports.specs.declared.given.Given.{Given as GivenSelf}
use Rattle.lg_kinds.specs.declared.rows.Count.{Count}
use Rattle.lg_kinds.specs.declared.rows.Count.TheVariants.{Once, Inputs, Incoming, Selections, Enabled, Extended, Parallel, Serial, Stages}
use Rattle.lg_attrs.specs.Pairs.{value_under}
use Rattle.lg_kinds.specs.PortTable.{default_of}
use Rattle.lg_kinds.specs.Rows.{Attribute, name_at}
use Rattle.lg_kinds.specs.Table.{entry}

-- a component: its kind, its attributes, and the records that replace what they leave out
pub record Given : Type 0 where
  pub kind : Kind
  pub attrs : List (List ℕ × List ℕ)
  pub records : List Record

-- a component of a kind with attributes, and the records
abbrev pub component : Kind → List (List ℕ × List ℕ) → List Record → Given
component kind attrs records = record { kind = kind; attrs = attrs; records = records }

-- the code's component as that of the definition
abbrev pub seen_given : GivenSelf → Given
seen_given g = component g.kind g.attrs.now.list g.table.now.records

-- the value of an attribute of a row: its own, else that of the last record for it, else the one of the table of kinds
abbrev pub value_of : Given → Attribute → List ℕ → Option (List ℕ)
value_of given row name =
    option_or (value_under name given.attrs) (option_or (default_of given.records given.kind name) row.usual)

-- the kind's row for an attribute of this name
abbrev pub row_of : Kind → List ℕ → Option Attribute
row_of kind name = find (λ (row : Attribute). bytes_eq row.name name) (entry kind).attributes

-- the value of the attribute of this name
abbrev pub value : Given → List ℕ → Option (List ℕ)
value given name = option_and_then (λ (row : Attribute). value_of given row name) (row_of given.kind name)

-- the number that a text is in decimal digits, one at least, if it is at most 99
abbrev pub number_of : List ℕ → Option ℕ
number_of text =
    if nat_le 1 (length text) && list_all (λ c. nat_lt (digit_value c) 10) text && nat_le (number_in 10 text) 99
    then Some (number_in 10 text)
    else None

-- the number that an attribute has, 0 where it has none
abbrev pub number : Given → List ℕ → ℕ
number given name = option_map_or (λ n. n) (option_and_then number_of (value given name)) 0

-- an attribute has this value
abbrev pub is_said : Given → List ℕ → List ℕ → Bool
is_said given name word = option_map_or (λ text. bytes_eq text word) (value given name) false

-- how it faces; nothing where its kind does not say
abbrev pub facing_of : Given → List ℕ
facing_of given = unwrap_or (value given (codes "facing")) []

-- once where a choice holds, else not
abbrev pub once_if : Bool → ℕ
once_if holds = if holds then 1 else 0

-- how many numbers so many select bits have; a select has at most 5
abbrev pub selections : Given → ℕ
selections given = 2 ^ min (number given (codes "select")) 5

-- how often a row stands for an attribute or a port
abbrev pub count_of : Given → Count → ℕ
count_of given Once = 1
count_of given Inputs = number given (codes "inputs")
count_of given Incoming = number given (codes "incoming")
count_of given Selections = selections given
count_of given Enabled = once_if (is_said given (codes "enable") (codes "true"))
count_of given Extended = once_if (is_said given (codes "type") (codes "input"))
count_of given Parallel = once_if (is_said given (codes "parallel") (codes "true"))
count_of given Serial = once_if (not (is_said given (codes "parallel") (codes "true")))
count_of given Stages = if is_said given (codes "parallel") (codes "true") then number given (codes "length") else 0

-- the value of attribute number k of the row of this name
abbrev pub numbered_value : Given → List ℕ → Count → ℕ → Option (List ℕ)
numbered_value given name count k =
    option_and_then (λ (row : Attribute). value_of given row (name_at name count k)) (row_of given.kind name)

-- attribute number k of the row of this name is true
abbrev pub is_flagged : Given → List ℕ → Count → ℕ → Bool
is_flagged given name count k = option_map_or (λ text. bytes_eq text (codes "true")) (numbered_value given name count k) false
