use Rattle.lg_value.specs.Bit.{not_bit}
use Rattle.lg_memory.proofs.CaseLemmas.{map-one_bit}
use Rattle.lg_memory.proofs.flip_flop.inverted.Goals as goal

pub returns-clause-bits : goal.returns-clause-bits
returns-clause-bits c =
    let one = map-one_bit not_bit c.args.word.now c.bit.result c.requires c.bit.ensures in
    cc (one, c.fill.ensures.bits, c.not_bit.ensures)
