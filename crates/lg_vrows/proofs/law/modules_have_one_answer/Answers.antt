use Rattle.lg_vrows.proofs.OneModule.{one_valid, no_fault, one_fault}
use Rattle.lg_vrows.proofs.law.modules_have_one_answer.Goals as goal

pub returns-clause-one : goal.returns-clause-one
returns-clause-one c = one_valid

pub returns-clause-apart : goal.returns-clause-apart
returns-clause-apart c = no_fault

pub returns-clause-one_fault : goal.returns-clause-one_fault
returns-clause-one_fault c = one_fault
