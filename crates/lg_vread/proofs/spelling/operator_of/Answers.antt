use Rattle.std.proofs.Common.{◌≡◌, ℕ, suc, ◌+◌, ◌<◌, false, List, length, get_or, drop, add-one, drop-cons, sym, ap, ◌∙◌, Some}
use Rattle.std.specs.Str.{bytes_eq}
use Rattle.std.proofs.lemmas.Bool.{cond-false}
use Rattle.lg_vtree.specs.declared.expr.Operator.{Operator}
use Rattle.lg_vtree.specs.Printed.{operator_text}
use Rattle.lg_vread.specs.Reading.{operator_of, operators}
use Rattle.lg_vread.proofs.spelling.operator_of.Goals as goal

-- one that is spelled otherwise is passed by
passed : (ops : List Operator) (i : ℕ) (d : Operator) (word : List ℕ) → i < length ops → bytes_eq word (operator_text (get_or ops i d)) ≡ false → operator_of (drop i ops) word ≡ operator_of (drop (i + 1) ops) word
passed ops i d word within other =
    ap (λ (rest : List Operator). operator_of rest word) (drop-cons ops i d within)
    ∙ cond-false (bytes_eq word (operator_text (get_or ops i d))) (Some (get_or ops i d)) (operator_of (drop (suc i) ops) word) other
    ∙ ap (λ (n : ℕ). operator_of (drop n ops) word) (sym (add-one i))

pub loop-operator-preserved : goal.loop-operator-preserved
loop-operator-preserved c =
    let word = c.args.word.now in
    let spelled = c.as_bytes.ensures.value ∙ c.as_str.ensures in
    c.loop-operator.invariant ∙ passed operators c.loop-operator.operator-index _ word c.loop-operator-test.true (ap (bytes_eq word) (sym spelled) ∙ sym c.eq.ensures ∙ c.if-eq.false)
