use Rattle.std.proofs.Common.{◌≡◌, ◌≤◌, List, length, take, subst, rules}
use Rattle.std.proofs.lemmas.List.{take_all, take_more}
use Rattle.lg_vectors.specs.declared.column.Column.{Column}
use Rattle.lg_vectors.specs.VectorText.{words}
use Rattle.lg_vectors.proofs.RowLemmas.{ValuesSoFar, values_next, row_short, row_bad, row_long, row_whole, row_widths}
use Rattle.lg_vectors.proofs.row.read_row.Goals as goal

pub returns-in_default-clause-row : goal.returns-in_default-clause-row
returns-in_default-clause-row c =
    row_short c.args.columns.now (words c.args.text.now) (words c.loop-column.rest.now) c.loop-column.row c.loop-column.column-index c.loop-column.invariant c.loop-column-test.true c.in_default.ensures.words

pub returns-in_default-read_value-clause-row : goal.returns-in_default-read_value-clause-row
returns-in_default-read_value-clause-row c =
    row_bad c.args.columns.now (words c.args.text.now) (words c.loop-column.rest.now) (words c.in-Some.after.now) c.in-Some.word.now c.loop-column.row c.loop-column.column-index c.column-item.result c.loop-column.invariant c.loop-column-test.true c.column-item.is c.in-Some.ensures.words c.in_default-read_value.ensures

pub loop-column-preserved : goal.loop-column-preserved
loop-column-preserved c =
    let columns = c.args.columns.now in
    let more = take_more columns c.loop-column.column-index c.column-item.result c.loop-column-test.true in
    rw (more, ← c.column-item.is)
    (values_next (take c.loop-column.column-index columns) (words c.args.text.now) (words c.loop-column.rest.now) (words c.in-Some.after.now) c.in-Some.word.now c.loop-column.row c.push.new.self c.column-item.result c.in-Some-read_value.value c.loop-column.invariant c.in-Some.ensures.words c.in-Some-read_value.ensures c.in_ok-push.ensures.ok)

pub returns-in-Some-next_word-clause-row : goal.returns-in-Some-next_word-clause-row
returns-in-Some-next_word-clause-row c =
    let columns = c.args.columns.now in
    let whole : take c.loop-column.column-index columns ≡ columns = take_all c.loop-column.column-index columns c.loop-column-test.false in
    let so_far : ValuesSoFar columns (words c.args.text.now) (words c.loop-column.rest.now) c.loop-column.row = subst (λ (t : List Column). ValuesSoFar t (words c.args.text.now) (words c.loop-column.rest.now) c.loop-column.row) whole c.loop-column.invariant in
    let some : 1 ≤ length columns = search rules in
    row_long columns (words c.args.text.now) (words c.loop-column.rest.now) (words c.in-Some-next_word.field-0.1.now) c.in-Some-next_word.field-0.0.now c.loop-column.row so_far some c.in-Some-next_word.ensures.words

pub returns-in-None-clause-row : goal.returns-in-None-clause-row
returns-in-None-clause-row c =
    let columns = c.args.columns.now in
    let whole : take c.loop-column.column-index columns ≡ columns = take_all c.loop-column.column-index columns c.loop-column-test.false in
    let so_far : ValuesSoFar columns (words c.args.text.now) (words c.loop-column.rest.now) c.loop-column.row = subst (λ (t : List Column). ValuesSoFar t (words c.args.text.now) (words c.loop-column.rest.now) c.loop-column.row) whole c.loop-column.invariant in
    let some : 1 ≤ length columns = search rules in
    row_whole columns (words c.args.text.now) (words c.loop-column.rest.now) c.loop-column.row so_far some c.in-None.ensures.words

pub returns-in-None-clause-widths : goal.returns-in-None-clause-widths
returns-in-None-clause-widths c =
    let columns = c.args.columns.now in
    let whole : take c.loop-column.column-index columns ≡ columns = take_all c.loop-column.column-index columns c.loop-column-test.false in
    let so_far : ValuesSoFar columns (words c.args.text.now) (words c.loop-column.rest.now) c.loop-column.row = subst (λ (t : List Column). ValuesSoFar t (words c.args.text.now) (words c.loop-column.rest.now) c.loop-column.row) whole c.loop-column.invariant in
    let some : 1 ≤ length columns = search rules in
    row_widths columns (words c.args.text.now) c.loop-column.row (row_whole columns (words c.args.text.now) (words c.loop-column.rest.now) c.loop-column.row so_far some c.in-None.ensures.words)
