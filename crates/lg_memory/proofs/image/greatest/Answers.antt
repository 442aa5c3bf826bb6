use Rattle.lg_memory.proofs.NumberLemmas.{greatest_of_width}
use Rattle.lg_memory.proofs.image.greatest.Goals as goal

pub returns : goal.returns
returns c = greatest_of_width c.args.width c.requires.1
