-- How the word of a column is taken apart. No contract of the crate's surface speaks of this.
use Rattle.std.specs.Prelude.{ℕ, ◌≡◌, false, ◌⊎◌, List, ◌++◌, All, codes}
use Rattle.std.specs.Fmt.{decimal}
use Rattle.lg_value.specs.Word.{IsWidth}
use Rattle.lg_vectors.specs.VectorText.{is_mark}

-- a width in brackets
abbrev pub IsBracketed : List ℕ → ℕ → Type 0
IsBracketed text width = IsWidth width × (text ≡ codes "[" ++ (decimal width ++ codes "]"))

-- a name alone, of one bit, or a name and a width in brackets
abbrev pub IsSpelled : List ℕ → List ℕ → ℕ → Type 0
IsSpelled word name width = ((word ≡ name) × (width ≡ 1)) ⊎ (IsWidth width × (word ≡ name ++ (codes "[" ++ (decimal width ++ codes "]"))))

-- this is the one name without marks, and its width, that a word may give
pub record ReadsName (word name : List ℕ) (width : ℕ) : Type 0 where
  pub in_range : IsWidth width
  pub spelled : IsSpelled word name width
  pub only : (other : List ℕ) (wide : ℕ) → All (λ c. is_mark c ≡ false) other → IsSpelled word other wide → (other ≡ name) × (wide ≡ width)
