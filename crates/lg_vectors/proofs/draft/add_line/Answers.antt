-- A line that names the columns or is a row.
use Rattle.std.proofs.Common.{◌≤◌, List, length, rules}
use Rattle.std.specs.Str.{IsUtf8}
use Rattle.lg_vectors.specs.declared.column.Column.{Column}
use Rattle.lg_vectors.specs.VectorText.{words, AreNames, AreRow}
use Rattle.lg_vectors.proofs.ReadingLemmas.{take_names, no_names, take_row}
use Rattle.lg_vectors.proofs.draft.add_line.Goals as goal

pub returns-in-Some-2-clause-line : goal.returns-in-Some-2-clause-line
returns-in-Some-2-clause-line c = λ rows stands.
    let draft = c.args.draft.now in
    let text = c.uncommented-text.result.now in
    let utf8 : IsUtf8 c.args.line.now = search rules in
    let some : 1 ≤ length (words text) = search rules in
    let named : AreNames (words text) c.in-Some-2.columns = rw c.in-Some-2.is at c.in_ok-columns-in-None.ensures.names in
    take_names draft.columns draft.rows draft.over rows c.args.line.now text c.in-Some-2.columns c.in-None.is c.uncommented-text.ensures utf8 some named stands

pub returns-in-None-2-clause-line : goal.returns-in-None-2-clause-line
returns-in-None-2-clause-line c = λ rows stands.
    let text = c.uncommented-text.result.now in
    let some : 1 ≤ length (words text) = search rules in
    let none : (named : List Column) → AreNames (words text) named → ⊥ = rw c.in-None-2.is at c.in_ok-columns-in-None.ensures.names in
    no_names c.args.draft.now.columns c.args.line.now text c.in-None.is c.uncommented-text.ensures some none

pub returns-in_ok-draft-in-Some-3-clause-line : goal.returns-in_ok-draft-in-Some-3-clause-line
returns-in_ok-draft-in-Some-3-clause-line c = λ rows stands.
    let draft = c.args.draft.now in
    let text = c.uncommented-text.result.now in
    let utf8 : IsUtf8 c.args.line.now = search rules in
    let some : 1 ≤ length (words text) = search rules in
    let row : AreRow c.as_slice.result.now (words text) c.in-Some-3.row = rw c.in-Some-3.is at c.in_ok-row-in-Some.ensures.row in
    take_row draft.columns draft.rows c.keep.new.rows draft.over c.in_ok-draft-in-Some-3.field-0 rows c.args.line.now text c.in-Some.columns c.as_slice.result.now c.in-Some-3.row c.in-Some.is c.as_slice.ensures c.uncommented-text.ensures utf8 some row stands (c.in_ok-draft-in-Some-3.ensures.keeps rows stands.keeps)
