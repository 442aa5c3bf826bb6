-- Bytes are one vector at most, and the first line outside the form is one.
use Rattle.std.proofs.Common.{◌≡◌, ℕ, zero, suc, ◌-◌, ◌<◌, ◌⊎◌, inl, inr, List, [], ◌∷◌, length, take, refl, sym, ap, subst, ◌∙◌, arith}
use Rattle.std.specs.Prelude.{All}
use Rattle.std.specs.Str.Lines.{lines}
use Rattle.std.proofs.lemmas.Bool.{cases_order}
use Rattle.std.proofs.lemmas.List.{take-take}
use Rattle.std.proofs.lemmas.List.Elements.{All-nil, All-cons, All-same}
use Rattle.lg_vectors.specs.declared.column.Column.{Column}
use Rattle.lg_vectors.specs.CaredBits.{CaredBits}
use Rattle.lg_vectors.specs.Rows.{IsRowOf}
use Rattle.lg_vectors.specs.VectorText.{words_of, dash, AreNames, AreValues, AreRow, AreRows, AreVector, IsVectorText, IsFirstOutside}
use Rattle.lg_vectors.proofs.RowLemmas.{row_widths}
use Rattle.lg_vectors.proofs.UniqueLemmas.{row_same, names_same}

abbrev pub Row : Type 0
Row = List CaredBits

-- words that name columns are some
names_some : (names : List (List ℕ)) (columns : List Column) → AreNames names columns → names ≡ [] → ⊥
names_some names columns (inl h) e = let no : [] ≡ dash = sym e ∙ h.0 in cc no
names_some names columns (inr h) e = let none : length names ≡ 0 = ap length e in omega (arith, none, h.1)

-- and words that are a row
row_some : (columns : List Column) (given : List (List ℕ)) (row : Row) → AreRow columns given row → given ≡ [] → ⊥
row_some [] given row h e = let no : [] ≡ dash = sym e ∙ h.0 in cc no
row_some (c ∷ columns) given row h e = subst (λ (words : List (List ℕ)). AreValues (c ∷ columns) words row) e h

-- lines are one list of rows
rows_same : (columns : List Column) (all : List (List ℕ)) (a b : List Row) → AreRows columns all a → AreRows columns all b → a ≡ b
rows_same columns [] a b h k = h ∙ sym k
rows_same columns (line ∷ all) a b (inl h) (inl k) = rows_same columns all a b h.1 k.1
rows_same columns (line ∷ all) a b (inl h) (inr k) = absurd (row_some columns (words_of line) k.0 k.2.are_row h.0.no_words)
rows_same columns (line ∷ all) a b (inr h) (inl k) = absurd (row_some columns (words_of line) h.0 h.2.are_row k.0.no_words)
rows_same columns (line ∷ all) a b (inr h) (inr k) =
    let first : h.0 ≡ k.0 = row_same columns (words_of line) h.0 k.0 h.2.are_row k.2.are_row in
    let rest : h.1 ≡ k.1 = rows_same columns all h.1 k.1 h.3 k.3 in
    h.4 ∙ ((λ i. first i ∷ rest i) ∙ sym k.4)

-- lines are one vector
lines_same : (all : List (List ℕ)) (columns others : List Column) (rows more : List Row) → AreVector all columns rows → AreVector all others more → (columns ≡ others) × (rows ≡ more)
lines_same [] columns others rows more h k = (h.0 ∙ sym k.0, h.1 ∙ sym k.1)
lines_same (line ∷ all) columns others rows more (inl h) (inl k) = lines_same all columns others rows more h.1 k.1
lines_same (line ∷ all) columns others rows more (inl h) (inr k) = absurd (names_some (words_of line) others k.0.are_names h.0.no_words)
lines_same (line ∷ all) columns others rows more (inr h) (inl k) = absurd (names_some (words_of line) columns h.0.are_names k.0.no_words)
lines_same (line ∷ all) columns others rows more (inr h) (inr k) =
    let same : columns ≡ others = names_same (words_of line) columns others h.0.are_names k.0.are_names in
    (same, rows_same columns all rows more h.1 (subst (λ (cs : List Column). AreRows cs all more) (sym same) k.1))

-- bytes are one vector
pub one_vector : (bytes : List ℕ) (columns others : List Column) (rows more : List Row) → IsVectorText bytes columns rows → IsVectorText bytes others more → (columns ≡ others) × (rows ≡ more)
one_vector bytes columns others rows more h k = lines_same (lines bytes) columns others rows more h k

-- the lines up to one of lines that are rows are rows
rows_front : (n : ℕ) (columns : List Column) (all : List (List ℕ)) (rows : List Row) → AreRows columns all rows → (some : List Row) × AreRows columns (take n all) some
rows_front zero columns all rows h = ([], refl)
rows_front (suc n) columns [] rows h = ([], refl)
rows_front (suc n) columns (line ∷ all) rows (inl h) = let r = rows_front n columns all rows h.1 in (r.0, inl (h.0, r.1))
rows_front (suc n) columns (line ∷ all) rows (inr h) = let r = rows_front n columns all h.1 h.3 in (h.0 ∷ r.0, inr (h.0, r.0, h.2, r.1, refl))

-- and those of a vector are one
vector_front : (n : ℕ) (all : List (List ℕ)) (columns : List Column) (rows : List Row) → AreVector all columns rows → (some : List Column) × (more : List Row) × AreVector (take n all) some more
vector_front zero all columns rows h = ([], [], (refl, refl))
vector_front (suc n) [] columns rows h = ([], [], (refl, refl))
vector_front (suc n) (line ∷ all) columns rows (inl h) = let r = vector_front n all columns rows h.1 in (r.0, r.1, inl (h.0, r.2))
vector_front (suc n) (line ∷ all) columns rows (inr h) = let r = rows_front n columns all rows h.1 in (columns, r.0, inr (h.0, r.1))

-- bytes with a line outside the form are no vector
pub outside_no_vector : (bytes : List ℕ) (number : ℕ) (columns : List Column) (rows : List Row) → IsFirstOutside bytes number → IsVectorText bytes columns rows → ⊥
outside_no_vector bytes number columns rows outside says =
    let front = vector_front number (lines bytes) columns rows says in
    outside.outside front.0 front.1 front.2

-- no line behind the first outside is the first
not_later : (bytes : List ℕ) (number later : ℕ) → number < later → IsFirstOutside bytes number → IsFirstOutside bytes later → ⊥
not_later bytes number later lt outside other =
    let front = vector_front number (take (later - 1) (lines bytes)) other.before.0 other.before.1 other.before.2 in
    let cut : take number (take (later - 1) (lines bytes)) ≡ take number (lines bytes) = take-take number (later - 1) (lines bytes) (omega (arith, lt)) in
    outside.outside front.0 front.1 (subst (λ (all : List (List ℕ)). AreVector all front.0 front.1) cut front.2)

pub one_outside : (bytes : List ℕ) (number other : ℕ) → IsFirstOutside bytes number → IsFirstOutside bytes other → number ≡ other
one_outside bytes number other h k = by_order (cases_order number other)
  where
    by_order : (number ≡ other) ⊎ ((number < other) ⊎ (other < number)) → number ≡ other
    by_order (inl same) = same
    by_order (inr (inl before)) = absurd (not_later bytes number other before h k)
    by_order (inr (inr after)) = absurd (not_later bytes other number after k h)

-- rows have a value a column
rows_wide : (columns : List Column) (all : List (List ℕ)) (rows : List Row) → AreRows columns all rows → All (IsRowOf columns) rows
rows_wide columns [] rows h = All-same (IsRowOf columns) rows [] h (All-nil (IsRowOf columns))
rows_wide columns (line ∷ all) rows (inl h) = rows_wide columns all rows h.1
rows_wide columns (line ∷ all) rows (inr h) =
    All-same (IsRowOf columns) rows (h.0 ∷ h.1) h.4
    (All-cons (IsRowOf columns) h.0 h.1 (row_widths columns (words_of line) h.0 h.2.are_row) (rows_wide columns all h.1 h.3))

lines_wide : (all : List (List ℕ)) (columns : List Column) (rows : List Row) → AreVector all columns rows → All (IsRowOf columns) rows
lines_wide [] columns rows h = All-same (IsRowOf columns) rows [] h.1 (All-nil (IsRowOf columns))
lines_wide (line ∷ all) columns rows (inl h) = lines_wide all columns rows h.1
lines_wide (line ∷ all) columns rows (inr h) = rows_wide columns all rows h.1

pub vector_wide : (bytes : List ℕ) (columns : List Column) (rows : List Row) → IsVectorText bytes columns rows → All (IsRowOf columns) rows
vector_wide bytes columns rows says = lines_wide (lines bytes) columns rows says
