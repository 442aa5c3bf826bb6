use Rattle.lg_vread.proofs.Texts.{one_module_lem}
use Rattle.lg_vread.proofs.law.one_module.Goals as goal

pub returns : goal.returns
returns c = one_module_lem
