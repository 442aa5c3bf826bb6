use Rattle.std.proofs.Common.{◌≡◌, ℕ, ◌+◌, List, [], ◌∷◌, ◌++◌, take, sym, ap, subst, ◌∙◌}
use Rattle.std.specs.List.{AllZip}
use Rattle.std.proofs.lemmas.List.{take_more}
use Rattle.std.proofs.lemmas.Slice.Zip.{all_zipped_more}
use Rattle.lg_vectors.specs.CaredBits.{CaredBits}
use Rattle.lg_vrows.specs.Rows.{AreInputs}
use Rattle.lg_vrows.proofs.inputs.inputs_of.Goals as goal

pub loop-row-preserved : goal.loop-row-preserved
loop-row-preserved c =
    let rows : List (List CaredBits) = c.args.rows.now in
    let at = c.loop-row.row-index in
    let row : List CaredBits = c.row-item.result in
    let numbers : List ℕ = c.in_ok-row_of.field-0 in
    let Gives : List CaredBits → List ℕ → Type 0 = AreInputs c.args.inputs c.args.indexes.now in
    let given : AreInputs c.args.inputs c.args.indexes.now row numbers = subst (λ (r : List CaredBits). AreInputs c.args.inputs c.args.indexes.now r numbers) c.as_slice.ensures c.in_ok-row_of.ensures in
    let next : take (at + 1) rows ≡ take at rows ++ row ∷ [] = take_more rows at row c.loop-row-test.true ∙ ap (λ (r : List CaredBits). take at rows ++ r ∷ []) (sym c.row-item.is) in
    subst (λ (some : List (List CaredBits)). AllZip Gives some c.push.new.self.items) (sym next)
    (subst (AllZip Gives (take at rows ++ row ∷ [])) (sym c.in_ok-push.ensures.items)
    (all_zipped_more Gives (take at rows) c.loop-row.numbers.items row numbers c.loop-row.invariant given))
