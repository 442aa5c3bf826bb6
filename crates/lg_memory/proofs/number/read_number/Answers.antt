use Rattle.std.proofs.Common.{◌≡◌, ◌+◌, ◌*◌, ◌<◌, None, get_or, length, arith, rules}
use Rattle.lg_memory.specs.Image.{digit_value}
use Rattle.lg_memory.proofs.DigitLemmas.{past_most, number_in_more, digits_more}
use Rattle.lg_memory.proofs.number.read_number.Goals as goal

pub returns-in_err-number : goal.returns-in_err-number
returns-in_err-number c =
    let text = c.args.text.now in
    let place = c.loop-byte.byte-index in
    let none : c.from_residual.result ≡ None = search rules in
    let past : c.args.most < c.args.base * c.loop-byte.number + digit_value (get_or text place 0) =
    rw (← c.digit_value-digit.ensures.value) c.in_err-number.ensures in
    rw none (past_most c.args.base text place c.loop-byte.number c.args.most c.requires.0 c.loop-byte-test.true c.loop-byte.invariant.so_far past)

pub loop-byte-preserved : goal.loop-byte-preserved
loop-byte-preserved c =
    let text = c.args.text.now in
    let place = c.loop-byte.byte-index in
    let inside : place < length text = omega arith in
    let more = number_in_more c.args.base text place inside in
    let small : digit_value (get_or text place 0) < c.args.base = omega (arith, c.digit_value-digit.ensures.value) in
    record {
      so_far = rw (more, ← c.loop-byte.invariant.so_far, ← c.digit_value-digit.ensures.value) c.in_ok-number.ensures.0;
      digits = digits_more c.args.base text place inside c.loop-byte.invariant.digits small;
      small = c.in_ok-number.ensures.1;
    }
