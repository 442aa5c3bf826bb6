use Rattle.lg_value.proofs.WordLemmas.{mapped_word}
use Rattle.lg_arith.specs.Operands.{counted_bit}
use Rattle.lg_arith.proofs.operand.counted_word.Goals as goal

pub returns : goal.returns
returns c = mapped_word counted_bit c.args.word.now c.map.result c.map.ensures.width (λ k h. (c.map.ensures.bits k h).1)
