use Rattle.std.proofs.Common.{◌≡◌, ◌∷◌, [], true}
use Rattle.std.proofs.lemmas.List.Elements.{All-append, All-cons, All-nil}
use Rattle.lg_value.specs.Word.{IsWidth}
use Rattle.lg_vectors.specs.declared.column.Column.{Column}
use Rattle.lg_vectors.specs.VectorText.{words, IsColumn, dash}
use Rattle.lg_vectors.proofs.HeadingLemmas.{names_more, names_fail}
use Rattle.lg_vectors.proofs.heading.read_columns.Goals as goal

pub returns-in_default-2-clause-names : goal.returns-in_default-2-clause-names
returns-in_default-2-clause-names c =
    let none : (column : Column) → IsColumn c.in-Some.word.now column → ⊥ = rw c.in_default-2.is at c.in_ok-column.ensures in
    let more : words c.args.text.now ≡ dash → ⊥ = λ e. let yes : c.is_dash.result ≡ true = c.is_dash.ensures.1 e in cc (yes, c.if-is_dash.false) in
    names_fail (words c.args.text.now) (words c.loop-word.rest.now) (words c.in-Some.after.now) c.in-Some.word.now c.loop-word.columns c.loop-word.invariant.names c.in-Some.ensures.words none more

pub loop-word-preserved : goal.loop-word-preserved
loop-word-preserved c =
    let is : IsColumn c.in-Some.word.now c.in-Some-2.column = rw c.in-Some-2.is at c.in_ok-column.ensures in
    record {
      names = names_more (words c.args.text.now) (words c.loop-word.rest.now) (words c.in-Some.after.now) c.in-Some.word.now c.loop-word.columns c.push.new.self c.in-Some-2.column c.loop-word.invariant.names c.in-Some.ensures.words is c.in_ok-push.ensures.ok;
      widths = rw c.in_ok-push.ensures.ok (All-append (λ (x : Column). IsWidth x.width) c.loop-word.columns (c.in-Some-2.column ∷ []) c.loop-word.invariant.widths (All-cons (λ (x : Column). IsWidth x.width) c.in-Some-2.column [] is.in_range (All-nil (λ (x : Column). IsWidth x.width))));
    }
