use Rattle.lg_run.proofs.DueRows.{due_rows}
use Rattle.lg_run.proofs.law.defined_rows_have_a_due_text.Goals as goal

pub returns : goal.returns
returns c = due_rows
