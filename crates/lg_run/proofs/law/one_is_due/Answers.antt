use Rattle.lg_run.proofs.OneDue.{same_due, some_due}
use Rattle.lg_run.proofs.law.one_is_due.Goals as goal

pub returns-clause-one : goal.returns-clause-one
returns-clause-one c = λ words held due other h k. same_due words held other due k h

pub returns-clause-some : goal.returns-clause-some
returns-clause-some c = some_due
