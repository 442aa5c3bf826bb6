use Rattle.std.proofs.Common.{◌≡◌, ◌+◌, ◌-◌, ◌++◌, [], ◌∷◌, List, ℕ, take, Some, sym, ap, ◌∙◌, append_assoc}
use Rattle.std.specs.Prelude.{slice_get}
use Rattle.lg_value.specs.declared.bit.Bit.{Bit}
use Rattle.lg_value.specs.Bit.{digit_of}
use Rattle.lg_value.specs.Word.{word_of_number}
use Rattle.lg_vrows.specs.Text.{binary}
use Rattle.lg_vrows.proofs.TextLemmas.{digit_more}
use Rattle.lg_vrows.proofs.text.put_binary.Goals as goal

pub loop-index-preserved : goal.loop-index-preserved
loop-index-preserved c =
    let width = c.args.width in
    let index = c.loop-index.index in
    let bit : Bit = c.bit.result in
    let at : slice_get (word_of_number width c.args.number) (width - 1 - index) ≡ Some bit = ap (λ (word : List Bit). slice_get word (width - 1 - index)) (sym c.from_number-word.ensures.bits) ∙ c.bit.ensures in
    c.in_ok-push.ensures.items
    ∙ ((λ k. c.loop-index.invariant k ++ c.digit.ensures k ∷ [])
    ∙ (append_assoc c.args.text.now.items (take index (binary width c.args.number)) ((48 + digit_of bit) ∷ [])
    ∙ ap (λ (digits : List ℕ). c.args.text.now.items ++ digits) (sym (digit_more width c.args.number index bit c.loop-index-test.true at))))
