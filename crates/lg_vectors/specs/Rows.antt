-- Rows of values for columns. Source: the Logisim-evolution user guide, Test Vector.
use Rattle.std.specs.Prelude.{◌≡◌, ◌≤◌, List, length, map, All}
use Rattle.lg_value.specs.Word.{IsWidth}
use Rattle.lg_vectors.specs.declared.column.Column.{Column}
use Rattle.lg_vectors.specs.CaredBits.{CaredBits}

-- one value a column, in the column's width
abbrev pub IsRowOf : List Column → List CaredBits → Type 0
IsRowOf columns row = map (λ v. length v.bits) row ≡ map (λ c. c.width) columns

-- rows of a vector with these columns, whose widths are 1 to 64
pub record AreRowsOf (columns : List Column) (rows : List (List CaredBits)) : Type 0 where
  pub widths : All (λ c. IsWidth c.width) columns
  pub few : length rows ≤ 65536
  pub each : All (IsRowOf columns) rows
