use Rattle.lg_vprint.proofs.Told.{printed}
use Rattle.lg_vprint.proofs.law.printed_text.Goals as goal

pub returns : goal.returns
returns c = printed
