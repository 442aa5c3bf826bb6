-- The text of rows: a heading with the outputs' names, and a line a row. Words have their highest bit first.
use Rattle.std.specs.Prelude.{ℕ, ◌+◌, List, ◌∷◌, ◌++◌, map, zip, reverse, codes}
use Rattle.std.specs.List.{flat_map, enumerate_from}
use Rattle.std.specs.Fmt.{decimal}
use Rattle.lg_value.specs.Bit.{digit_of}
use Rattle.lg_value.specs.Word.{word_of_number}
use Rattle.lg_vtree.specs.declared.module.Module.{Module}
use Rattle.lg_vrules.specs.Things.{lines_of, is_output}
use Rattle.lg_vrows.specs.Rows.{plain}

-- a number in so many binary digits
abbrev pub binary : ℕ → ℕ → List ℕ
binary width n = map (λ bit. 48 + digit_of bit) (reverse (word_of_number width n))

-- fields, each behind a tab, and the end of the line
abbrev pub fields_text : List (List ℕ) → List ℕ
fields_text fields = flat_map (λ field. 9 ∷ field) fields ++ codes "\n"

abbrev pub heading_text : List (List ℕ × ℕ) → List ℕ
heading_text lines = codes "row" ++ fields_text (map (λ (l : List ℕ × ℕ). plain l.0) lines)

-- the line of a row: its number, and its outputs
abbrev pub row_text : List (List ℕ × ℕ) → ℕ × List ℕ → List ℕ
row_text lines row = decimal row.0 ++ fields_text (map (λ (p : (List ℕ × ℕ) × ℕ). binary p.0.1 p.1) (zip lines row.1))

-- the text of outputs row by row, counted from 1, for ports with these names and widths
abbrev pub table_text : List (List ℕ × ℕ) → List (List ℕ) → List ℕ
table_text ports outs = heading_text ports ++ flat_map (row_text ports) (enumerate_from 1 outs)

-- and for the outputs of a module
abbrev pub rows_text : Module → List (List ℕ) → List ℕ
rows_text m outs = table_text (lines_of is_output m) outs
