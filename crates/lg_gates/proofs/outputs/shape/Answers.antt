use Rattle.std.proofs.Common.{rules}
use Rattle.lg_gates.specs.Shape.{shape_bit}
use Rattle.lg_value.proofs.WordLemmas.{mapped_word}
use Rattle.lg_gates.proofs.outputs.shape.Goals as goal

pub returns-clause-word : goal.returns-clause-word
returns-clause-word c = mapped_word (shape_bit c.args.form) c.args.a.now c.map.result c.map.ensures.width (λ k h. search (rules, c.map.ensures.bits k h))
