-- The forms of the table of kinds: what a row for an attribute and a row for a port say.
use Rattle.std.specs.Prelude.{ℕ, Bool, true, false, List, ◌++◌, Option, map, option_map, if◌then◌else◌}
use Rattle.std.specs.Fmt.{decimal}
use denote.Bor.{Bor}
use Rattle.lg_kinds.specs.declared.port.Side.{Side}
use Rattle.lg_kinds.specs.declared.port.Loose.{Loose}
use Rattle.lg_kinds.specs.declared.rows.Count.{Count}
use Rattle.lg_kinds.specs.declared.rows.Count.TheVariants.{Inputs, Incoming, Selections, Stages}
use Rattle.lg_kinds.specs.declared.rows.Size.{Size}
use Rattle.lg_kinds.specs.declared.rows.Place.{Place}
use Rattle.lg_kinds.specs.declared.rows.Delay.{Delay}
use Rattle.lg_kinds.specs.declared.rows.Entry.{Entry}
use Rattle.lg_kinds.specs.declared.rows.AttributeRow.{AttributeRow}
use Rattle.lg_kinds.specs.declared.rows.PortRow.{PortRow}
use Rattle.lg_kinds.specs.declared.rows.Range.{Range as RangeRow}
use Rattle.lg_kinds.specs.declared.rows.Range.TheVariants as row

-- which values an attribute may have: every text, some words, the numbers from one to another, the numbers from 1 to
-- the width, the numbers of a splitter's ends or `none`, the numbers of 64 bits, the contents of a ROM
pub data Range : Type 0 where
  Any : Range
  OneOf : List (List ℕ) → Range
  Number : ℕ → ℕ → Range
  Group : Range
  End : Range
  Literal : Range
  Contents : Range

-- an attribute: its name, how often it stands, its range, and the value that it has where it is left out
pub record Attribute : Type 0 where
  pub name : List ℕ
  pub count : Count
  pub range : Range
  pub usual : Option (List ℕ)

-- a port: its side, its name, how often it stands, its width, its place and its loose value
pub record PortForm : Type 0 where
  pub side : Side
  pub name : List ℕ
  pub count : Count
  pub size : Size
  pub place : Place
  pub loose : Loose

-- what the table says of one kind: its name, its attributes and its ports in order, and its delay
pub record KindEntry : Type 0 where
  pub name : List ℕ
  pub attributes : List Attribute
  pub ports : List PortForm
  pub delay : Delay

-- a row for an attribute
abbrev pub attribute : List ℕ → Count → Range → Option (List ℕ) → Attribute
attribute name count range usual = record { name = name; count = count; range = range; usual = usual }

-- a row for a port
abbrev pub port : Side → List ℕ → Count → Size → Place → Loose → PortForm
port side name count size place loose = record { side = side; name = name; count = count; size = size; place = place; loose = loose }

-- what a row stands for is numbered from 0, behind its name, where it may be several
abbrev pub is_numbered : Count → Bool
is_numbered Inputs = true
is_numbered Incoming = true
is_numbered Selections = true
is_numbered Stages = true
is_numbered _ = false

-- the name of an attribute or a port by its number
abbrev pub name_at : List ℕ → Count → ℕ → List ℕ
name_at name count k = if is_numbered count then name ++ decimal k else name

-- a range of the code's table as one of the definition's
abbrev pub seen_range : RangeRow → Range
seen_range row.Any = Any
seen_range (row.OneOf words) = OneOf (map (λ (w : Bor (List ℕ)). w.now) words.now)
seen_range (row.Number low high) = Number low high
seen_range row.Group = Group
seen_range row.End = End
seen_range row.Literal = Literal
seen_range row.Contents = Contents

-- a row for an attribute, likewise
abbrev pub seen_attribute : AttributeRow → Attribute
seen_attribute r = attribute r.0.now r.1 (seen_range r.2) (option_map (λ (t : Bor (List ℕ)). t.now) r.3)

-- a row for a port, likewise
abbrev pub seen_port : PortRow → PortForm
seen_port r = port r.0 r.1.now r.2 r.3 r.4 r.5

-- an entry, likewise
abbrev pub seen_entry : Entry → KindEntry
seen_entry e = record { name = e.name.now; attributes = map seen_attribute e.attributes.now; ports = map seen_port e.ports.now; delay = e.delay }
