use Rattle.lg_names.proofs.OneNumbering.{one_numbering}
use Rattle.lg_names.proofs.law.one_numbering.Goals as goal

pub returns : goal.returns
returns c = one_numbering
