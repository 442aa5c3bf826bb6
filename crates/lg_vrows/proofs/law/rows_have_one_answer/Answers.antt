use Rattle.lg_vrows.proofs.OneText.{one_text, no_fault, one_fault}
use Rattle.lg_vrows.proofs.law.rows_have_one_answer.Goals as goal

pub returns-clause-one : goal.returns-clause-one
returns-clause-one c = one_text

pub returns-clause-apart : goal.returns-clause-apart
returns-clause-apart c = no_fault

pub returns-clause-one_fault : goal.returns-clause-one_fault
returns-clause-one_fault c = one_fault
