use Rattle.lg_circ.proofs.Decided.{same_tree}
use Rattle.lg_circ.proofs.law.one_tree.Goals as goal

pub returns : goal.returns
returns c = same_tree
