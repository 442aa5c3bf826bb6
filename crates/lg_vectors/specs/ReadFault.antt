-- What stands against reading a vector.
use Rattle.std.specs.Prelude.{ℕ, ◌≡◌, ◌<◌, ◌-◌, ◌^◌, min, List, length}
use Rattle.lg_vectors.specs.declared.column.Column.{Column}
use Rattle.lg_vectors.specs.declared.fault.VectorFault.{VectorFault}
use Rattle.lg_vectors.specs.declared.fault.VectorFault.TheVariants.{NotVector, TooManyRows, Memory}
use Rattle.lg_vectors.specs.CaredBits.{CaredBits}
use Rattle.lg_vectors.specs.VectorText.{IsVectorText, IsFirstOutside}

-- bytes are a vector with more rows than so many
abbrev pub HasMoreRows : ℕ → List ℕ → Type 0
HasMoreRows most bytes = (columns : List Column) × (rows : List (List CaredBits)) × IsVectorText bytes columns rows × (most < length rows)

-- why bytes are not read: the number of a line past 2^32 - 1 is given as that
abbrev pub IsReadFault : ℕ → List ℕ → VectorFault → Type 0
IsReadFault most bytes (NotVector line) = (number : ℕ) × IsFirstOutside bytes number × (line ≡ min number (2 ^ 32 - 1))
IsReadFault most bytes TooManyRows = HasMoreRows most bytes
IsReadFault most bytes Memory = Unit {0}
IsReadFault most bytes _ = ⊥
