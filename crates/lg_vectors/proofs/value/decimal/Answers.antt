use Rattle.lg_vectors.proofs.ValueLemmas.{negative, unsigned}
use Rattle.lg_vectors.proofs.value.decimal.Goals as goal

pub returns-in-Some : goal.returns-in-Some
returns-in-Some c = negative c.args.width c.args.word.now c.in-Some.text.now c.subtracted.result c.in-Some.ensures c.subtracted.ensures

pub returns-in-None : goal.returns-in-None
returns-in-None c = unsigned c.args.width c.args.word.now c.positive.result c.in-None.ensures c.positive.ensures
