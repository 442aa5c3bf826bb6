use Rattle.lg_kinds.proofs.OneTable.{one_table, apart, one_fault}
use Rattle.lg_kinds.proofs.SomeTable.{table_or_fault}
use Rattle.lg_kinds.proofs.law.files_say_one_table.Goals as goal

pub returns-clause-one : goal.returns-clause-one
returns-clause-one c = one_table

pub returns-clause-apart : goal.returns-clause-apart
returns-clause-apart c = apart

pub returns-clause-one_fault : goal.returns-clause-one_fault
returns-clause-one_fault c = one_fault

pub returns-clause-some : goal.returns-clause-some
returns-clause-some c = table_or_fault
