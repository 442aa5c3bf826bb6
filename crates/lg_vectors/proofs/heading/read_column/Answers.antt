use Rattle.lg_vectors.proofs.HeadingLemmas.{no_column, no_name}
use Rattle.lg_vectors.proofs.heading.read_column.Goals as goal

pub returns-in_default : goal.returns-in_default
returns-in_default c = no_column c.args.word.now c.in_default.ensures

pub returns-in-None : goal.returns-in-None
returns-in-None c = no_name c.args.word.now c.in-Some.name.now c.in-Some.width c.in-Some.ensures c.in-None.ensures
