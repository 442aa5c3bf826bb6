use Rattle.lg_circ.proofs.Whole.{other_cause}
use Rattle.lg_circ.proofs.read.refuse.Goals as goal

pub returns-in_default : goal.returns-in_default
returns-in_default c = other_cause c.args.text.now c.args.fault c.in_default.not-TooDeep c.requires
