use Rattle.std.proofs.Common.{◌≡◌, ◌+◌, ◌-◌, ◌%◌, ◌^◌, ◌≤◌, refl, arith}
use Rattle.lg_vectors.proofs.ValueLemmas.{is_subtracted, half_fits}
use Rattle.lg_vectors.proofs.value.subtracted.Goals as goal

pub returns : goal.returns
returns c =
    let number = c.in_ok-number.number in
    let most : number ≤ 2 ^ (c.args.width - 1) = omega (arith, c.in_ok-number.ensures.1, c.half.ensures) in
    let below : c.greatest.result - number + number + 1 ≡ 2 ^ c.args.width = omega (arith, c.greatest.ensures, most, half_fits c.args.width c.requires.0) in
    is_subtracted c.args.width c.args.text.now number (c.greatest.result - number) ((c.greatest.result - number + 1) % 18446744073709551616) c.but.result c.requires.1 c.in_ok-number.ensures.0 most below refl c.but.ensures
