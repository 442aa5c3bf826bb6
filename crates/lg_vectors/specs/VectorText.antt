-- The text of a vector, line by line. Source: the Logisim-evolution user guide, Test Vector: a line that names the
-- columns and then a line for each row, with comments and blank lines, in this project's form.
use Rattle.std.specs.Prelude.{ℕ, Bool, false, ◌≡◌, ◌≢◌, ◌-◌, ◌≤◌, ◌==◌, ◌||◌, not, ◌⊎◌, List, [], ◌∷◌, ◌++◌, length, take, filter, All, codes}
use Rattle.std.specs.Fmt.{decimal}
use Rattle.std.specs.List.{AllZip, slice_split, before_first}
use Rattle.std.specs.Str.{IsUtf8}
use Rattle.std.specs.Str.Lines.{lines}
use Rattle.lg_value.specs.Word.{IsWidth}
use Rattle.lg_vectors.specs.declared.column.Column.{Column}
use Rattle.lg_vectors.specs.CaredBits.{CaredBits}
use Rattle.lg_vectors.specs.Values.{IsValue}

-- a space or a tab
abbrev pub is_gap : ℕ → Bool
is_gap c = c == 32 || c == 9

-- the words of a text without comments, with spaces and tabs between them
abbrev pub words : List ℕ → List (List ℕ)
words text = filter (λ word. not (length word == 0)) (slice_split is_gap text)

-- a line up to its comment, which `#` begins
abbrev pub uncommented : List ℕ → List ℕ
uncommented line = before_first (λ c. c == 35) line

-- the words of a line: those before its comment
abbrev pub words_of : List ℕ → List (List ℕ)
words_of line = words (uncommented line)

-- nothing but spaces, tabs and a comment
pub record IsBlank (line : List ℕ) : Type 0 where
  pub is_utf8 : IsUtf8 line
  pub no_words : words_of line ≡ []

-- white space, `#`, `[`, `]`, `<` or `>`, which no name has
abbrev pub is_mark : ℕ → Bool
is_mark c = is_gap c || c == 13 || c == 10 || c == 35 || c == 91 || c == 93 || c == 60 || c == 62

-- the name of a column: one character or more
pub record IsName (name : List ℕ) : Type 0 where
  pub is_utf8 : IsUtf8 name
  pub some : 1 ≤ length name
  pub plain : All (λ c. is_mark c ≡ false) name

-- `NAME` is a column of one bit, `NAME[w]` one of w bits
pub record IsColumn (word : List ℕ) (column : Column) : Type 0 where
  pub named : IsName column.name
  pub in_range : IsWidth column.width
  pub spelled : ((word ≡ column.name) × (column.width ≡ 1)) ⊎ (word ≡ column.name ++ (codes "[" ++ (decimal column.width ++ codes "]")))

-- `-` alone, which stands for none
abbrev pub dash : List (List ℕ)
dash = codes "-" ∷ []

-- words that name columns: one column or more, or none by `-` alone
abbrev pub AreNames : List (List ℕ) → List Column → Type 0
AreNames names columns = ((names ≡ dash) × (columns ≡ [])) ⊎ ((names ≢ dash) × (1 ≤ length names) × AllZip IsColumn names columns)

-- words that are the values of columns, in order
abbrev pub AreValues : List Column → List (List ℕ) → List CaredBits → Type 0
AreValues [] [] [] = Unit {0}
AreValues (column ∷ columns) (word ∷ others) (value ∷ row) = IsValue column.width word value × AreValues columns others row
AreValues _ _ _ = ⊥

-- words that are a row: a value a column, or `-` alone where there is no column
abbrev pub AreRow : List Column → List (List ℕ) → List CaredBits → Type 0
AreRow [] given row = (given ≡ dash) × (row ≡ [])
AreRow (column ∷ columns) given row = AreValues (column ∷ columns) given row

-- a line that names columns
pub record NamesColumns (line : List ℕ) (columns : List Column) : Type 0 where
  pub is_utf8 : IsUtf8 line
  pub are_names : AreNames (words_of line) columns

-- a line that is a row
pub record IsRow (columns : List Column) (line : List ℕ) (row : List CaredBits) : Type 0 where
  pub is_utf8 : IsUtf8 line
  pub are_row : AreRow columns (words_of line) row

-- lines that are rows, with blank ones between them
abbrev pub AreRows : List Column → List (List ℕ) → List (List CaredBits) → Type 0
AreRows columns [] rows = rows ≡ []
AreRows columns (line ∷ more) rows =
    (IsBlank line × AreRows columns more rows)
    ⊎ ((row : List CaredBits) × (others : List (List CaredBits)) × IsRow columns line row × AreRows columns more others × (rows ≡ row ∷ others))

-- lines that are a vector: the first that is not blank names the columns, and the later ones are rows
abbrev pub AreVector : List (List ℕ) → List Column → List (List CaredBits) → Type 0
AreVector [] columns rows = (columns ≡ []) × (rows ≡ [])
AreVector (line ∷ more) columns rows =
    (IsBlank line × AreVector more columns rows) ⊎ (NamesColumns line columns × AreRows columns more rows)

-- bytes are a vector with these columns and rows. A line's end is LF, with a CR before it or not; behind the last line it may be missing
abbrev pub IsVectorText : List ℕ → List Column → List (List CaredBits) → Type 0
IsVectorText bytes columns rows = AreVector (lines bytes) columns rows

-- the first line that is outside the form, counted from 1: those before it are a vector, and with it they are none
pub record IsFirstOutside (bytes : List ℕ) (number : ℕ) : Type 0 where
  pub some : 1 ≤ number
  pub within : number ≤ length (lines bytes)
  pub before : (columns : List Column) × (rows : List (List CaredBits)) × AreVector (take (number - 1) (lines bytes)) columns rows
  pub outside : (columns : List Column) (rows : List (List CaredBits)) → AreVector (take number (lines bytes)) columns rows → ⊥
