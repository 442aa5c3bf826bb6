use Rattle.lg_vrows.proofs.Judged.{module_or_fault}
use Rattle.lg_vrows.proofs.law.texts_are_modules_or_not.Goals as goal

pub returns : goal.returns
returns c = module_or_fault
