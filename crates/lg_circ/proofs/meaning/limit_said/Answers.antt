use Rattle.std.proofs.Common.{◌≡◌, ◌∙◌, sym, ap, List, ℕ, true, false}
use Rattle.std.specs.Prelude.{min}
use Rattle.std.specs.Char.{is_ascii_digit}
use Rattle.lg_circ.specs.Grammar.{are_digits, number_in}
use Rattle.lg_circ.proofs.Evidence.{limit_none, limit_in, limit_out}
use Rattle.lg_circ.proofs.meaning.limit_said.Goals as goal

pub returns-then-not-are_decimal : goal.returns-then-not-are_decimal
returns-then-not-are_decimal c =
    let are : are_digits is_ascii_digit c.args.text.now ≡ false = ap (are_digits is_ascii_digit) (sym c.as_bytes-digits.ensures.value) ∙ sym c.are_decimal.ensures ∙ c.if-not-are_decimal.true in
    limit_none c.args.text.now are

pub returns-then-is_limit : goal.returns-then-is_limit
returns-then-is_limit c =
    let are : are_digits is_ascii_digit c.args.text.now ≡ true = ap (are_digits is_ascii_digit) (sym c.as_bytes-digits.ensures.value) ∙ sym c.are_decimal.ensures ∙ c.if-not-are_decimal.false in
    let n : c.number-limit.result ≡ min (number_in 10 c.args.text.now) 1114112 = c.number-limit.ensures ∙ ap (λ (t : List ℕ). min (number_in 10 t) 1114112) c.as_bytes-digits.ensures.value in
    limit_in c.args.text.now c.number-limit.result are n (sym c.is_limit.ensures ∙ c.if-is_limit.true)

pub returns-else-is_limit : goal.returns-else-is_limit
returns-else-is_limit c =
    let are : are_digits is_ascii_digit c.args.text.now ≡ true = ap (are_digits is_ascii_digit) (sym c.as_bytes-digits.ensures.value) ∙ sym c.are_decimal.ensures ∙ c.if-not-are_decimal.false in
    let n : c.number-limit.result ≡ min (number_in 10 c.args.text.now) 1114112 = c.number-limit.ensures ∙ ap (λ (t : List ℕ). min (number_in 10 t) 1114112) c.as_bytes-digits.ensures.value in
    limit_out c.args.text.now c.number-limit.result are n (sym c.is_limit.ensures ∙ c.if-is_limit.false)
