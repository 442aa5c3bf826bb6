use Rattle.std.proofs.Common.{◌-◌, arith, ◌∙◌}
use Rattle.lg_gates.proofs.SelectorLemmas.{bits_from_past, bits_from_inside, bits_from_over}
use Rattle.lg_gates.proofs.selector.bits_from.Goals as goal

pub returns-then-start-from-clause-bits : goal.returns-then-start-from-clause-bits
returns-then-start-from-clause-bits c =
    c.fill.ensures.bits ∙ bits_from_past c.args.word.now c.args.start c.args.count (omega arith)

pub returns-then-count-held-clause-bits : goal.returns-then-count-held-clause-bits
returns-then-count-held-clause-bits c =
    c.cut.ensures.bits ∙ bits_from_inside c.args.word.now c.args.start c.args.count (omega arith)

pub returns-else-count-held-clause-bits : goal.returns-else-count-held-clause-bits
returns-else-count-held-clause-bits c =
    let over = bits_from_over c.args.word.now c.args.start (c.width-width.result - c.args.start) c.args.count (omega arith) (omega arith) in
    let low = c.cut-else-count-held.ensures.bits in
    let high = c.fill-else-count-held.ensures.bits in
    let joined = c.glue.ensures.bits in cc
