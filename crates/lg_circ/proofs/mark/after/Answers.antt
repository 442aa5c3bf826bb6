use Rattle.lg_circ.proofs.Marks.{strip_now}
use Rattle.lg_circ.proofs.mark.after.Goals as goal

pub returns : goal.returns
returns c = strip_now c.args.mark.now c.args.text.now c.strip_prefix.result c.strip_prefix.ensures.cases
