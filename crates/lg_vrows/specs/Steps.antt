-- What the steps of the crate ask for and give. No contract of the crate's surface speaks of this.
use Rattle.std.specs.Prelude.{◌≡◌, ℕ, ◌<◌, List, map, slice_get, slice_index, length, Some}
use Rattle.lg_value.specs.Word.{IsWidth}
use Rattle.lg_vmeaning.specs.declared.ports.PortLine.{PortLine}

-- the name has two bytes or more, and the second is ASCII, so that it can be cut behind that
pub record IsMarked (name : List ℕ) : Type 0 where
  pub long : 1 < length name
  pub ascii : slice_index name 1 < 128

-- a port whose name can be cut, and whose width is that of a word
pub record IsPrinted (line : PortLine) : Type 0 where
  pub marked : IsMarked line.name
  pub width : IsWidth line.width

-- ports as their names and widths
abbrev pub lines : List PortLine → List (List ℕ × ℕ)
lines ports = map (λ (line : PortLine). (line.name, line.width)) ports

-- indexes among so many inputs, none of which comes twice
pub record AreIndexes (inputs : ℕ) (indexes : List ℕ) : Type 0 where
  pub below : (column index : ℕ) → slice_get indexes column ≡ Some index → index < inputs
  pub apart : (column other index : ℕ) → slice_get indexes column ≡ Some index → slice_get indexes other ≡ Some index → column ≡ other
