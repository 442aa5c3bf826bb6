use Rattle.lg_vectors.proofs.ValueLemmas.{last_form}
use Rattle.lg_vectors.proofs.value.read_value.Goals as goal

pub returns-in-None-binary : goal.returns-in-None-binary
returns-in-None-binary c = last_form c.args.width c.args.word.now c.decimal.result c.in-None.ensures c.in-None-binary.ensures c.decimal.ensures
