use Rattle.lg_gates.specs.Shape.{buffer_bit}
use Rattle.lg_value.proofs.WordLemmas.{mapped_word}
use Rattle.lg_gates.proofs.outputs.buffer.Goals as goal

pub returns-clause-word : goal.returns-clause-word
returns-clause-word c = mapped_word buffer_bit c.args.a.now c.map.result c.map.ensures.width (λ k h. (c.map.ensures.bits k h).1)
