use Rattle.lg_run.proofs.StaticRows.{read_again, due_is_static}
use Rattle.lg_run.proofs.law.exported_modules_give_static_rows.Goals as goal

pub returns-clause-read : goal.returns-clause-read
returns-clause-read c = read_again

pub returns-clause-rows : goal.returns-clause-rows
returns-clause-rows c = due_is_static
