use Rattle.std.proofs.Common.{rules, arith}
use Rattle.lg_circ.proofs.Numbers.{number_start, below_million, seven_digits}
use Rattle.lg_circ.proofs.point.number.Goals as goal

pub loop-c-init : goal.loop-c-init
loop-c-init c = number_start c.args.digits.now

pub overflow_mul-number : goal.overflow_mul-number
overflow_mul-number c =
    let small = below_million c.loop-c.number c.loop-c.c-index c.args.digits.now (search rules) c.requires c.loop-c.invariant in
    omega (arith, small)

pub overflow_add-number : goal.overflow_add-number
overflow_add-number c =
    let small = below_million c.loop-c.number c.loop-c.c-index c.args.digits.now (search rules) c.requires c.loop-c.invariant in
    omega (arith, small, c.from.type_inv)

pub returns-clause-small : goal.returns-clause-small
returns-clause-small c = seven_digits c.loop-c.number c.loop-c.c-index (omega (arith, c.loop-c.auto.c-index-end, c.requires)) c.loop-c.invariant.small
