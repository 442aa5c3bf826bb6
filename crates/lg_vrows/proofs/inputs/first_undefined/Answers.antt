use Rattle.std.proofs.Common.{ℕ, ◌+◌, ◌≤◌, List, ◌∷◌, ◌++◌, length, take, drop, sym, ap, subst, ◌∙◌, arith, length-take-le}
use Rattle.std.specs.Prelude.{All}
use Rattle.std.proofs.lemmas.Bool.{false≢true}
use Rattle.std.proofs.lemmas.List.{take_all, drop_more, take-append-drop}
use Rattle.std.proofs.lemmas.List.Elements.{All-more}
use Rattle.lg_vectors.specs.CaredBits.{CaredBits}
use Rattle.lg_vrows.specs.Rows.{IsDefinedRow}
use Rattle.lg_vrows.proofs.inputs.first_undefined.Goals as goal

pub returns-then-not-is_defined : goal.returns-then-not-is_defined
returns-then-not-is_defined c =
    let rows : List (List CaredBits) = c.args.rows.now in
    let at = c.loop-at.at in
    let row : List CaredBits = c.index-rows-at.result in
    let short : at ≤ length rows = omega (arith, c.loop-at-test.true) in
    record {
      before = take at rows;
      row = row;
      after = drop (at + 1) rows;
      parts = sym (take-append-drop at rows) ∙ ap (λ (rest : List (List CaredBits)). take at rows ++ rest) (drop_more rows at row c.loop-at-test.true ∙ ap (λ (r : List CaredBits). r ∷ drop (at + 1) rows) (sym c.index-rows-at.is));
      counted = ap (λ (n : ℕ). n + 1) (sym (length-take-le at rows short));
      defined = c.loop-at.invariant;
      undefined = λ defined. false≢true (sym c.if-not-is_defined.true ∙ c.is_defined.ensures.1 (subst IsDefinedRow (sym c.as_slice.ensures) defined));
    }

pub loop-at-preserved : goal.loop-at-preserved
loop-at-preserved c =
    let rows : List (List CaredBits) = c.args.rows.now in
    let row : List CaredBits = c.index-rows-at.result in
    All-more IsDefinedRow rows c.loop-at.at row c.loop-at-test.true c.loop-at.invariant (subst IsDefinedRow (c.as_slice.ensures ∙ c.index-rows-at.is) (c.is_defined.ensures.0 c.if-not-is_defined.false))

pub returns : goal.returns
returns c = subst (All IsDefinedRow) (take_all c.loop-at.at c.args.rows.now c.loop-at-test.false) c.loop-at.invariant
