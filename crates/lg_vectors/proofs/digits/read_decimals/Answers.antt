-- One decimal digit more, or a number that is past the limit.
use Rattle.std.proofs.Common.{◌≡◌, ◌<◌, get_or, sym, ◌∙◌, arith}
use Rattle.std.proofs.lemmas.List.Elements.{All-more}
use Rattle.lg_vectors.specs.Values.{digit_value, known_part, number_from}
use Rattle.lg_vectors.proofs.DigitLemmas.{number_more, past_most, known_decimal}
use Rattle.lg_vectors.proofs.digits.read_decimals.Goals as goal

pub returns-in_err-number : goal.returns-in_err-number
returns-in_err-number c =
    let text = c.args.text.now in
    let place = c.loop-byte.byte-index in
    let small : digit_value (get_or text place 0) < 10 = omega (arith, c.digit_value-digit.ensures.value, c.if-digit-ge10.false) in
    let digit : c.digit_value-digit.result ≡ known_part (get_or text place 0) = c.digit_value-digit.ensures.value ∙ sym (known_decimal (get_or text place 0) small) in
    let past : c.args.most < number_from 10 0 text =
    past_most 10 text place c.loop-byte.number c.digit_value-digit.result c.args.most (omega arith) c.loop-byte-test.true c.loop-byte.invariant.number digit c.in_err-number.ensures in
    rw c.from_residual.ensures (λ number decimals. omega (arith, decimals.same, past))

pub loop-byte-preserved : goal.loop-byte-preserved
loop-byte-preserved c =
    let text = c.args.text.now in
    let place = c.loop-byte.byte-index in
    let small : digit_value (get_or text place 0) < 10 = omega (arith, c.digit_value-digit.ensures.value, c.if-digit-ge10.false) in
    let digit : c.digit_value-digit.result ≡ known_part (get_or text place 0) = c.digit_value-digit.ensures.value ∙ sym (known_decimal (get_or text place 0) small) in
    record {
      digits = All-more (λ x. digit_value x < 10) text place 0 c.loop-byte-test.true c.loop-byte.invariant.digits small;
      number = rw (number_more 10 text place c.loop-byte-test.true, ← c.loop-byte.invariant.number, ← digit) c.in_ok-number.ensures.0;
      small = c.in_ok-number.ensures.1;
    }
