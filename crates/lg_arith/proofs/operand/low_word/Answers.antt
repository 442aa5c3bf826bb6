use Rattle.std.proofs.Common.{arith, ◌∙◌}
use Rattle.lg_arith.proofs.OperandLemmas.{word_of_number-mod}
use Rattle.lg_arith.proofs.operand.low_word.Goals as goal

pub returns-clause-bits : goal.returns-clause-bits
returns-clause-bits c =
    c.from_number.ensures.bits ∙ word_of_number-mod c.args.width 64 c.args.n (omega arith)
