use Rattle.lg_vrows.proofs.SomeText.{rows_exist}
use Rattle.lg_vrows.proofs.law.defined_rows_have_outputs.Goals as goal

pub returns : goal.returns
returns c = rows_exist
