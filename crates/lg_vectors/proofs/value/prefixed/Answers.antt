use Rattle.lg_vectors.proofs.ValueLemmas.{hexadecimal, octal}
use Rattle.lg_vectors.proofs.value.prefixed.Goals as goal

pub returns-in-Some : goal.returns-in-Some
returns-in-Some c = hexadecimal c.args.width c.args.word.now c.in-Some.text.now c.counted.result c.in-Some.ensures c.counted.ensures

pub returns-in-Some-behind : goal.returns-in-Some-behind
returns-in-Some-behind c = octal c.args.width c.args.word.now c.in-Some-behind.text.now c.counted-in-Some-behind.result c.in-Some-behind.ensures c.counted-in-Some-behind.ensures
