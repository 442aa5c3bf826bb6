use Rattle.lg_vrows.proofs.Judged.{rows_or_fault}
use Rattle.lg_vrows.proofs.law.texts_are_rows_or_not.Goals as goal

pub returns : goal.returns
returns c = rows_or_fault
