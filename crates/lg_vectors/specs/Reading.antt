-- What a reader knows of a vector behind some of its lines. No contract of the crate's surface speaks of this.
use Rattle.std.specs.Prelude.{ℕ, Bool, true, false, ◌≡◌, ◌<◌, ◌≤◌, List, [], ◌∷◌, ◌++◌, length, Option, Some, None}
use Rattle.lg_vectors.specs.declared.column.Column.{Column}
use Rattle.lg_vectors.specs.CaredBits.{CaredBits}
use Rattle.lg_vectors.specs.Rows.{AreRowsOf}
use Rattle.lg_vectors.specs.VectorText.{AreRows, AreVector}

-- a row of values
abbrev pub Row : Type 0
Row = List CaredBits

-- lines that make a vector, behind others that named columns or did not, and had some rows
abbrev pub Continues : Option (List Column) → List Row → List (List ℕ) → List Column → List Row → Type 0
Continues None rows lines columns all = AreVector lines columns all
Continues (Some own) rows lines columns all = (columns ≡ own) × ((more : List Row) × AreRows own lines more × (all ≡ rows ++ more))

-- what is kept fits the columns
abbrev pub Fits : Option (List Column) → List Row → Type 0
Fits None kept = kept ≡ []
Fits (Some columns) kept = AreRowsOf columns kept

-- what is kept of the rows so far: all of them, or just that there are too many
abbrev pub Keeps : List Row → Bool → List Row → Type 0
Keeps kept false rows = (kept ≡ rows) × (length rows ≤ 65536)
Keeps kept true rows = 65536 < length rows

-- without columns there are no rows
abbrev pub BeginsEmpty : Option (List Column) → List Row → Type 0
BeginsEmpty None rows = rows ≡ []
BeginsEmpty (Some columns) rows = Unit {0}

-- what is known stands for these rows
pub record Stands (columns : Option (List Column)) (kept : List Row) (over : Bool) (rows : List Row) : Type 0 where
  pub keeps : Keeps kept over rows
  pub empty : BeginsEmpty columns rows

-- a line goes over into what is known behind it, and nothing is lost
pub record GoesOn (columns : Option (List Column)) (rows : List Row) (line : List ℕ) (after : Option (List Column)) (more : List Row) : Type 0 where
  pub on : (lines : List (List ℕ)) (named : List Column) (all : List Row) → Continues columns rows (line ∷ lines) named all → Continues after more lines named all
  pub back : (lines : List (List ℕ)) (named : List Column) (all : List Row) → Continues after more lines named all → Continues columns rows (line ∷ lines) named all

-- with this line there is no vector
abbrev pub Stops : Option (List Column) → List ℕ → Type 0
Stops columns line = (rows : List Row) (lines : List (List ℕ)) (named : List Column) (all : List Row) → Continues columns rows (line ∷ lines) named all → ⊥
