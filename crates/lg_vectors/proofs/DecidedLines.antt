-- Whether bytes are a vector can be told, and where they are none, the first line outside.
use Rattle.std.proofs.Common.{◌≡◌, ℕ, suc, ◌-◌, ◌<◌, ◌≤◌, false, List, [], ◌∷◌, length, take, drop, Option, Some, None, refl, subst, ◌⊎◌, inl, inr, arith}
use Rattle.std.specs.List.{All, AllZip, position}
use Rattle.std.specs.Str.{IsUtf8}
use Rattle.std.specs.Str.Lines.{lines}
use Rattle.std.proofs.lemmas.List.{take_all}
use Rattle.lg_text.proofs.Deciding.{Decided, SomeOrNone, both, fails, at_most, is_text, empty, same_list, same_text, each, partners, some_below, holds_or_ends}
use Rattle.lg_vectors.specs.declared.column.Column.{Column}
use Rattle.lg_vectors.specs.CaredBits.{CaredBits}
use Rattle.lg_vectors.specs.Heading.{IsBracketed, IsSpelled, ReadsName}
use Rattle.lg_vectors.specs.Values.{IsValue}
use Rattle.lg_vectors.specs.VectorText.{words_of, is_mark, dash, IsBlank, IsName, IsColumn, AreNames, AreValues, AreRow, NamesColumns, IsRow, AreRows, AreVector, IsVectorText, IsFirstOutside}
use Rattle.lg_vectors.proofs.DecidedValues.{value_or_not}
use Rattle.lg_vectors.proofs.HeadingLemmas.{opens, name_alone, name_before, no_width, no_column, no_name, is_column}
use Rattle.lg_vectors.proofs.UniqueLemmas.{names_same}

name_or_not : (name : List ℕ) → Decided (IsName name)
name_or_not name = by (both (both (is_text name) (at_most 1 (length name))) (each (λ c. is_mark c ≡ false) (λ c. fails (is_mark c)) name))
  where
    by : Decided ((IsUtf8 name × (1 ≤ length name)) × All (λ c. is_mark c ≡ false) name) → Decided (IsName name)
    by (inl h) = inl (record { is_utf8 = h.0.0; some = h.0.1; plain = h.1 })
    by (inr never) = inr (λ is. never ((is.is_utf8, is.some), is.plain))

-- a word has the form of a name, with a width or without
abbrev Spelled : List ℕ → Type 0
Spelled word = ((name : List ℕ) × (width : ℕ) × ReadsName word name width) ⊎ ((name : List ℕ) (width : ℕ) → All (λ c. is_mark c ≡ false) name → IsSpelled word name width → ⊥)

spelled_or_not : (word : List ℕ) → Spelled word
spelled_or_not word = by (position opens word) refl
  where
    by : (at : Option ℕ) → position opens word ≡ at → Spelled word
    by None e = inl (word, 1, name_alone word e)
    by (Some k) e = by_width (some_below (λ width. IsBracketed rest width) told 65)
      where
        rest : List ℕ
        rest = take (length word - k) (drop k word)

        told : (width : ℕ) → Decided (IsBracketed rest width)
        told width = both (both (at_most 1 width) (at_most width 64)) (same_text rest _)

        by_width : ((width : ℕ) × (width < 65) × IsBracketed rest width) ⊎ ((width : ℕ) → width < 65 → IsBracketed rest width → ⊥) → Spelled word
        by_width (inl (width, less, is)) = inl (take k word, width, name_before word k width e is)
        by_width (inr none) = inr (no_width word k e (λ width is. none width (let in_range = is.0 in omega (arith, in_range.1)) is))

column_or_not : (word : List ℕ) → SomeOrNone (IsColumn word)
column_or_not word = by (spelled_or_not word)
  where
    named : (name : List ℕ) (width : ℕ) → ReadsName word name width → Decided (IsName name) → SomeOrNone (IsColumn word)
    named name width reads (inl is) = inl (record { name = name; width = width }, is_column word name name width reads is refl)
    named name width reads (inr never) = inr (no_name word name width reads never)

    by : Spelled word → SomeOrNone (IsColumn word)
    by (inl (name, width, reads)) = named name width reads (name_or_not name)
    by (inr none) = inr (no_column word none)

names_or_not : (names : List (List ℕ)) → SomeOrNone (AreNames names)
names_or_not names = by (same_list same_text names dash) (at_most 1 (length names)) (partners IsColumn column_or_not names)
  where
    by : Decided (names ≡ dash) → Decided (1 ≤ length names) → SomeOrNone (AllZip IsColumn names) → SomeOrNone (AreNames names)
    by (inl e) some columns = inl ([], inl (e, refl))
    by (inr never) (inl some) (inl c) = inl (c.0, inr (never, some, c.1))
    by (inr never) (inr none) columns = inr (λ columns h. elim h [ inl d ↦ never d.0 | inr c ↦ none c.1 ])
    by (inr never) (inl some) (inr none) = inr (λ columns h. elim h [ inl d ↦ never d.0 | inr c ↦ none columns c.2 ])

values_or_not : (columns : List Column) (given : List (List ℕ)) → SomeOrNone (AreValues columns given)
values_or_not [] [] = inl ([], tt)
values_or_not [] (word ∷ others) = inr (λ row h. h)
values_or_not (column ∷ columns) [] = inr (λ row h. h)
values_or_not (column ∷ columns) (word ∷ others) = join (value_or_not column.width word) (values_or_not columns others)
  where
    no_first : ((value : CaredBits) → IsValue column.width word value → ⊥) → (row : List CaredBits) → AreValues (column ∷ columns) (word ∷ others) row → ⊥
    no_first never [] h = h
    no_first never (value ∷ row) h = never value h.0

    no_rest : ((row : List CaredBits) → AreValues columns others row → ⊥) → (row : List CaredBits) → AreValues (column ∷ columns) (word ∷ others) row → ⊥
    no_rest never [] h = h
    no_rest never (value ∷ row) h = never row h.1

    join : SomeOrNone (IsValue column.width word) → SomeOrNone (AreValues columns others) → SomeOrNone (AreValues (column ∷ columns) (word ∷ others))
    join (inl v) (inl more) = inl (v.0 ∷ more.0, (v.1, more.1))
    join (inr never) more = inr (no_first never)
    join (inl v) (inr never) = inr (no_rest never)

row_given_or_not : (columns : List Column) (given : List (List ℕ)) → SomeOrNone (AreRow columns given)
row_given_or_not (column ∷ columns) given = values_or_not (column ∷ columns) given
row_given_or_not [] given = by (same_list same_text given dash)
  where
    by : Decided (given ≡ dash) → SomeOrNone (AreRow [] given)
    by (inl e) = inl ([], (e, refl))
    by (inr never) = inr (λ row h. never h.0)

blank_or_not : (line : List ℕ) → Decided (IsBlank line)
blank_or_not line = by (both (is_text line) (empty (words_of line)))
  where
    by : Decided (IsUtf8 line × (words_of line ≡ [])) → Decided (IsBlank line)
    by (inl h) = inl (record { is_utf8 = h.0; no_words = h.1 })
    by (inr never) = inr (λ b. never (b.is_utf8, b.no_words))

heading_or_not : (line : List ℕ) → SomeOrNone (NamesColumns line)
heading_or_not line = by (is_text line) (names_or_not (words_of line))
  where
    by : Decided (IsUtf8 line) → SomeOrNone (AreNames (words_of line)) → SomeOrNone (NamesColumns line)
    by (inl t) (inl c) = inl (c.0, record { is_utf8 = t; are_names = c.1 })
    by (inr never) c = inr (λ columns h. never h.is_utf8)
    by (inl t) (inr never) = inr (λ columns h. never columns h.are_names)

row_or_not : (columns : List Column) (line : List ℕ) → SomeOrNone (IsRow columns line)
row_or_not columns line = by (is_text line) (row_given_or_not columns (words_of line))
  where
    by : Decided (IsUtf8 line) → SomeOrNone (AreRow columns (words_of line)) → SomeOrNone (IsRow columns line)
    by (inl t) (inl r) = inl (r.0, record { is_utf8 = t; are_row = r.1 })
    by (inr never) r = inr (λ row h. never h.is_utf8)
    by (inl t) (inr never) = inr (λ row h. never row h.are_row)

rows_or_not : (columns : List Column) (all : List (List ℕ)) → SomeOrNone (AreRows columns all)
rows_or_not columns [] = inl ([], refl)
rows_or_not columns (line ∷ more) = by (rows_or_not columns more) (blank_or_not line) (row_or_not columns line)
  where
    by : SomeOrNone (AreRows columns more) → Decided (IsBlank line) → SomeOrNone (IsRow columns line) → SomeOrNone (AreRows columns (line ∷ more))
    by (inl (rows, h)) (inl b) row = inl (rows, inl (b, h))
    by (inl (rows, h)) (inr never) (inl (row, r)) = inl (row ∷ rows, inr (row, rows, r, h, refl))
    by (inl rows) (inr never) (inr none) = inr (λ rows h. elim h [ inl b ↦ never b.0 | inr r ↦ none r.0 r.2 ])
    by (inr none) b row = inr (λ rows h. elim h [ inl b ↦ none rows b.1 | inr r ↦ none r.1 r.3 ])

-- lines are a vector
abbrev Vector : List (List ℕ) → Type 0
Vector all = (columns : List Column) × (rows : List (List CaredBits)) × AreVector all columns rows

vector_or_not : (all : List (List ℕ)) → Decided (Vector all)
vector_or_not [] = inl ([], [], (refl, refl))
vector_or_not (line ∷ more) = by (both (blank_or_not line) (vector_or_not more)) (heading_or_not line)
  where
    with_rows : (IsBlank line × Vector more → ⊥) → (columns : List Column) → NamesColumns line columns → SomeOrNone (AreRows columns more) → Decided (Vector (line ∷ more))
    with_rows never columns n (inl (rows, h)) = inl (columns, rows, inr (n, h))
    with_rows never columns n (inr none) = inr (λ v. elim v.2 [
      | inl b ↦ never (b.0, (v.0, v.1, b.1))
      | inr r ↦ none v.1 (subst (λ (c : List Column). AreRows c more v.1) (names_same (words_of line) v.0 columns r.0.are_names n.are_names) r.1)
    ])

    by : Decided (IsBlank line × Vector more) → SomeOrNone (NamesColumns line) → Decided (Vector (line ∷ more))
    by (inl (b, v)) named = inl (v.0, v.1, inl (b, v.2))
    by (inr never) (inl (columns, n)) = with_rows never columns n (rows_or_not columns more)
    by (inr never) (inr none) = inr (λ v. elim v.2 [
      | inl b ↦ never (b.0, (v.0, v.1, b.1))
      | inr r ↦ none v.0 r.0
    ])

-- bytes are a vector, or have a first line outside
pub vector_or_outside : (bytes : List ℕ) → ((columns : List Column) × (rows : List (List CaredBits)) × IsVectorText bytes columns rows) ⊎ ((number : ℕ) × IsFirstOutside bytes number)
vector_or_outside bytes = by (holds_or_ends UpTo (λ n. vector_or_not (take n all)) ([], [], (refl, refl)) (length all))
  where
    all : List (List ℕ)
    all = lines bytes

    UpTo : ℕ → Type 0
    UpTo n = Vector (take n all)

    by : UpTo (length all) ⊎ ((n : ℕ) × (n < length all) × UpTo n × (UpTo (suc n) → ⊥)) → Vector all ⊎ ((number : ℕ) × IsFirstOutside bytes number)
    by (inl v) = inl (subst Vector (take_all (length all) all (omega arith)) v)
    by (inr (n, less, h, never)) =
        let one_back : n ≡ suc n - 1 = omega arith in
        inr (
          suc n,
          record {
            some = omega arith;
            within = omega (arith, less);
            before = subst UpTo one_back h;
            outside = λ columns rows are. never (columns, rows, are);
          },
        )
