-- One digit more, or a number that is past the width.
use Rattle.std.proofs.Common.{◌≡◌, ◌+◌, ◌*◌, ◌^◌, ◌%◌, ◌<◌, ℕ, true, get_or, take, sym, ap, subst, ◌∙◌, arith}
use Rattle.std.specs.List.{All}
use Rattle.std.proofs.lemmas.List.{take_all}
use Rattle.std.proofs.lemmas.List.Elements.{All-more}
use Rattle.std.proofs.lemmas.Nat.{pow_pos}
use Rattle.lg_vectors.specs.Apart.{AreApart}
use Rattle.lg_vectors.specs.Values.{is_digit, known_part, free_part, number_from, free_from}
use Rattle.lg_vectors.proofs.BitLemmas.{apart_wrapped}
use Rattle.lg_vectors.proofs.DigitLemmas.{number_more, free_more, past_most, wrapped_more, apart_digit, are_digits}
use Rattle.lg_vectors.proofs.digits.read_digits.Goals as goal

pub returns-in_err-number : goal.returns-in_err-number
returns-in_err-number c =
    let text = c.args.text.now in
    let place = c.loop-byte.byte-index in
    let base : c.base-base.result ≡ 2 ^ c.args.size = c.base-base.ensures in
    let refused : c.greatest-most.result < c.loop-byte.number * 2 ^ c.args.size + c.known_part.result = rw base at c.in_err-number.ensures in
    let past : c.greatest-most.result < number_from (2 ^ c.args.size) 0 text =
    past_most (2 ^ c.args.size) text place c.loop-byte.number c.known_part.result c.greatest-most.result (pow_pos c.args.size) c.loop-byte-test.true c.loop-byte.invariant.number c.known_part.ensures.value refused in
    rw c.from_residual.ensures (λ value digits. omega (arith, digits.fits, past, c.greatest-most.ensures))

pub loop-byte-preserved : goal.loop-byte-preserved
loop-byte-preserved c =
    let text = c.args.text.now in
    let place = c.loop-byte.byte-index in
    let size = c.args.size in
    let base : c.base-base.result ≡ 2 ^ size = c.base-base.ensures in
    let free = free_from size 0 (take place text) in
    let digit : is_digit size (get_or text place 0) ≡ true = sym (c.is_digit.ensures size base) ∙ c.if-not-is_digit.false in
    let number : c.in_ok-number.number ≡ c.loop-byte.number * 2 ^ size + known_part (get_or text place 0) = c.in_ok-number.ensures.0 ∙ ap (λ (b : ℕ). c.loop-byte.number * b + c.known_part.result) base ∙ ap (λ (d : ℕ). c.loop-byte.number * 2 ^ size + d) c.known_part.ensures.value in
    record {
      digits = All-more (λ x. is_digit size x ≡ true) text place 0 c.loop-byte-test.true c.loop-byte.invariant.digits digit;
      number = rw (number_more (2 ^ size) text place c.loop-byte-test.true, ← c.loop-byte.invariant.number) number;
      free = rw (free_more size text place c.loop-byte-test.true, c.loop-byte.invariant.free, c.free_part.ensures size base, base) (wrapped_more free (2 ^ size) (free_part size (get_or text place 0)));
      apart = rw (free_more size text place c.loop-byte-test.true, number) (apart_digit size (get_or text place 0) c.loop-byte.number free digit c.loop-byte.invariant.apart);
      small = c.in_ok-number.ensures.1;
    }

pub but-requires-clause-apart : goal.but-requires-clause-apart
but-requires-clause-apart c =
    subst (λ (f : ℕ). AreApart c.loop-byte.number f) (sym c.loop-byte.invariant.free)
    (apart_wrapped c.loop-byte.number (free_from c.args.size 0 (take c.loop-byte.byte-index c.args.text.now)) c.loop-byte.invariant.apart)

pub returns : goal.returns
returns c =
    let text = c.args.text.now in
    let whole : take c.loop-byte.byte-index text ≡ text = take_all c.loop-byte.byte-index text c.loop-byte-test.false in
    let digits : All (λ x. is_digit c.args.size x ≡ true) text = rw whole at c.loop-byte.invariant.digits in
    let number : c.loop-byte.number ≡ number_from (2 ^ c.args.size) 0 text = rw whole at c.loop-byte.invariant.number in
    let free : c.loop-byte.free ≡ free_from c.args.size 0 text % 2 ^ 64 = rw whole at c.loop-byte.invariant.free in
    are_digits c.args.size c.args.width text c.loop-byte.number c.loop-byte.free c.but.result c.requires.width.1 digits number free (omega (arith, c.loop-byte.invariant.small, c.greatest-most.ensures)) c.but.ensures
