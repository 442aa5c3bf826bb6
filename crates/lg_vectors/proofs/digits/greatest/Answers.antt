use Rattle.lg_vectors.proofs.BitLemmas.{greatest_of_width}
use Rattle.lg_vectors.proofs.digits.greatest.Goals as goal

pub returns : goal.returns
returns c = greatest_of_width c.args.width c.requires.1
