-- Where a table ends.
use Rattle.std.proofs.Common.{◌≡◌, ℕ, ◌+◌, ◌<◌, ◌≤◌, List, [], ◌∷◌, ◌++◌, length, drop, get_or, Option, Some, None, sym, ◌∙◌, ap, subst, refl}
use Rattle.std.proofs.lemmas.List.{append_assoc, append-nil, at_drop_more, at_drop_all}
use Rattle.lg_timing.specs.declared.phase.Phase.{Phase}
use Rattle.lg_timing.specs.Circuit.{Word, Circuit}
use Rattle.lg_timing.specs.Configuration.{Configuration}
use Rattle.lg_timing.specs.Session.{Line, Stop}
use Rattle.lg_timing.specs.RowByRow.{RowLeaves, RowStopsOn, GoesOnFrom}

-- how a table of all rows begins, once the rows before one have given these lines
abbrev pub Begins : Circuit → ℕ → List (List Word) → List Line → Option Configuration → ℕ → List (List Word) → Type 0
Begins c limit rows lines stood row rest =
    (more : List Line) (stop : Option Stop) → GoesOnFrom c limit stood row rest more stop → GoesOnFrom c limit None 1 rows (lines ++ more) stop

one_before : (lines more : List Line) (line : Line) → lines ++ line ∷ more ≡ (lines ++ line ∷ []) ++ more
one_before lines more line = sym (append_assoc lines (line ∷ []) more)

-- after the last row it ends
pub table-done : (c : Circuit) (limit : ℕ) (rows : List (List Word)) (lines : List Line) (stood : Option Configuration) (row i : ℕ) → length rows ≤ i
    → Begins c limit rows lines stood row (drop i rows) → GoesOnFrom c limit None 1 rows lines None
table-done c limit rows lines stood row i past begins =
    let all : drop i rows ≡ [] = at_drop_all (λ (l : List (List Word)). l) rows i past in
    let P : List (List Word) → Type 0 = λ l. GoesOnFrom c limit stood row l [] None in
    let Q : List Line → Type 0 = λ l. GoesOnFrom c limit None 1 rows l None in
    subst Q (append-nil lines) (begins [] None (subst P (sym all) tt))

here_and_rest : (rows : List (List Word)) (i : ℕ) (words : List Word) → i < length rows → words ≡ get_or rows i words → drop i rows ≡ words ∷ drop (i + 1) rows
here_and_rest rows i words inside is = at_drop_more (λ (l : List (List Word)). l) rows i words inside ∙ ap (λ w. w ∷ drop (i + 1) rows) (sym is)

-- it ends at a row that stops
pub table-stops : (c : Circuit) (limit : ℕ) (rows : List (List Word)) (lines : List Line) (stood : Option Configuration) (row i : ℕ) (words : List Word) (phase : Phase)
    → i < length rows → words ≡ get_or rows i words → RowStopsOn c limit stood words phase
    → Begins c limit rows lines stood row (drop i rows) → GoesOnFrom c limit None 1 rows lines (Some (record { row = row; phase = phase }))
table-stops c limit rows lines stood row i words phase inside is stops begins =
    let stop : Stop = record { row = row; phase = phase } in
    let P : List (List Word) → Type 0 = λ l. GoesOnFrom c limit stood row l [] (Some stop) in
    let Q : List Line → Type 0 = λ l. GoesOnFrom c limit None 1 rows l (Some stop) in
    subst Q (append-nil lines) (begins [] (Some stop) (subst P (sym (here_and_rest rows i words inside is)) (refl, stops)))

-- a row more
pub table-more : (c : Circuit) (limit : ℕ) (rows : List (List Word)) (lines : List Line) (stood : Option Configuration) (row i : ℕ) (words : List Word) (line : Line) (last : Configuration)
    → i < length rows → words ≡ get_or rows i words → RowLeaves c limit stood words line last
    → Begins c limit rows lines stood row (drop i rows) → Begins c limit rows (lines ++ line ∷ []) (Some last) (row + 1) (drop (i + 1) rows)
table-more c limit rows lines stood row i words line last inside is leaves begins more stop goes =
    let P : List (List Word) → Type 0 = λ l. GoesOnFrom c limit stood row l (line ∷ more) stop in
    let Q : List Line → Type 0 = λ l. GoesOnFrom c limit None 1 rows l stop in
    subst Q (one_before lines more line) (begins (line ∷ more) stop (subst P (sym (here_and_rest rows i words inside is)) (last, leaves, goes)))
