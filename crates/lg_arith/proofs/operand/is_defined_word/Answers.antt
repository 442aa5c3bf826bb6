use Rattle.std.proofs.lemmas.Bool.Decides.{same_from_decides}
use Rattle.lg_arith.specs.Operands.{is_defined_word}
use Rattle.lg_arith.proofs.OperandLemmas.{Decides-is_defined_word}
use Rattle.lg_arith.proofs.operand.is_defined_word.Goals as goal

pub returns : goal.returns
returns c =
    same_from_decides c.defined.result (is_defined_word c.args.word.now) c.defined.ensures (Decides-is_defined_word c.args.word.now)
