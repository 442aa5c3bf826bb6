use Rattle.lg_vectors.proofs.DecidedLines.{vector_or_outside}
use Rattle.lg_vectors.proofs.law.texts_are_vectors_or_not.Goals as goal

pub returns : goal.returns
returns c = vector_or_outside
