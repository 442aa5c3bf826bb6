use Rattle.lg_vectors.proofs.DecidedBinding.{bound_or_not}
use Rattle.lg_vectors.proofs.law.columns_are_bound_or_not.Goals as goal

pub returns : goal.returns
returns c = bound_or_not
