use Rattle.std.proofs.Common.{◌≡◌, ℕ, ◌+◌, ◌<◌, List, Some, length, sym, ap, subst, ◌∙◌, arith}
use Rattle.std.specs.Prelude.{slice_get, slice_set}
use Rattle.std.specs.Slice.Iter.{iter_rest}
use Rattle.std.specs.Iterator.Adapters.{zip_first, zip_second}
use Rattle.std.proofs.lemmas.List.{length_push}
use Rattle.std.proofs.lemmas.Option.{slice_get-get_or}
use Rattle.std.proofs.lemmas.Slice.Zip.{zip_turn, zip_end}
use Rattle.lg_value.specs.Word.{number_of}
use Rattle.lg_vectors.specs.CaredBits.{CaredBits}
use Rattle.lg_vrows.specs.Rows.{AreInputs}
use Rattle.lg_vrows.proofs.InputLemmas.{AreInputsTo, one_done, all_done}
use Rattle.lg_vrows.proofs.inputs.row_of.Goals as goal

pub loop-index-preserved : goal.loop-index-preserved
loop-index-preserved c =
    let indexes = c.args.indexes.now in
    let row : List CaredBits = c.args.row.now in
    let numbers = c.loop-index.numbers.items in
    let done = length c.loop-index.yielded in
    let index = c.in-Some.index.now in
    let value : CaredBits = c.in-Some.value.now in
    let first : iter_rest (zip_first c.into_iter-index-iterator.result) ≡ indexes = cc in
    let second : iter_rest (zip_second c.into_iter-index-iterator.result) ≡ row = cc in
    let turn = zip_turn indexes row c.loop-index.yielded c.into_iter-index-iterator.result c.loop-index.index-iterator c.next.new.self c.next.result first second c.loop-index.yielded_by (c.in-Some.index, c.in-Some.value) c.in-Some.is c.next.ensures.steps in
    let stands : slice_get indexes done ≡ Some index = slice_get-get_or indexes done index turn.0 ∙ ap Some (sym (turn.2 index)) in
    let holds : slice_get row done ≡ Some value = slice_get-get_or row done value turn.1 ∙ ap Some (sym (turn.3 value)) in
    let number : c.number.result ≡ number_of value.bits = c.number.ensures.sum ∙ ap number_of c.bits.ensures.bits in
    let all = one_done done c.args.inputs indexes row numbers index value c.requires stands holds c.loop-index.invariant in
    subst (λ (n : ℕ). AreInputsTo n c.args.inputs indexes row (slice_set numbers index c.number.result)) (sym (length_push c.loop-index.yielded (c.in-Some.index, c.in-Some.value)))
    (subst (λ (n : ℕ). AreInputsTo (done + 1) c.args.inputs indexes row (slice_set numbers index n)) (sym number) all)

pub returns : goal.returns
returns c =
    let indexes = c.args.indexes.now in
    let row : List CaredBits = c.args.row.now in
    let done = length c.loop-index.yielded in
    let first : iter_rest (zip_first c.into_iter-index-iterator.result) ≡ indexes = cc in
    let second : iter_rest (zip_second c.into_iter-index-iterator.result) ≡ row = cc in
    let end = zip_end indexes row c.loop-index.yielded c.into_iter-index-iterator.result c.loop-index.index-iterator c.next.new.self c.next.result first second c.loop-index.yielded_by c.in-None.is c.next.ensures.steps in
    let past : (column : ℕ) → column < length indexes → column < length row → column < done = λ column a b. omega (arith, end, a, b) in
    subst (AreInputs c.args.inputs indexes row) (sym c.from_vec.ensures) (all_done done c.args.inputs indexes row c.loop-index.numbers.items past c.loop-index.invariant)
