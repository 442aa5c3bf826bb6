use Rattle.lg_circ.proofs.Decided.{says_or_not, one_project}
use Rattle.lg_circ.proofs.Few.{project_few}
use Rattle.lg_circ.proofs.law.texts_say_or_not.Goals as goal

pub returns : goal.returns
returns c = record { decided = says_or_not; one = one_project; few = project_few }
