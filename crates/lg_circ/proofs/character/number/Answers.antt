use Rattle.std.proofs.Common.{◌∙◌, ap, ℕ, ◌+◌, ◌*◌, arith}
use Rattle.std.specs.Prelude.{min}
use Rattle.std.proofs.lemmas.List.{drop_all}
use Rattle.lg_circ.proofs.Digits.{digits_start, digits_go_on, digits_end, fits_mul}
use Rattle.lg_circ.proofs.character.number.Goals as goal

pub loop-c-init : goal.loop-c-init
loop-c-init c = digits_start c.args.base c.args.digits.now

pub overflow_mul-base : goal.overflow_mul-base
overflow_mul-base c = let k = fits_mul c.args.base c.loop-c.number c.requires.small c.loop-c.invariant.small in omega (arith, k)

pub overflow_add-base : goal.overflow_add-base
overflow_add-base c = let k = fits_mul c.args.base c.loop-c.number c.requires.small c.loop-c.invariant.small in omega (arith, k, c.digit.ensures.small)

pub loop-c-preserved : goal.loop-c-preserved
loop-c-preserved c =
    let next = c.min-number.ensures ∙ ap (λ (d : ℕ). min 1114112 (c.args.base * c.loop-c.number + d)) c.digit.ensures.value in
    digits_go_on c.args.base c.loop-c.number c.loop-c.c-index c.args.digits.now c.min-number.result c.requires.some c.loop-c-test.true next c.loop-c.invariant

pub returns : goal.returns
returns c = digits_end c.args.base c.loop-c.number c.loop-c.c-index c.args.digits.now (drop_all c.loop-c.c-index c.args.digits.now c.loop-c-test.false) c.loop-c.invariant
