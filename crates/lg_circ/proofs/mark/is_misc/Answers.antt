use Rattle.lg_circ.proofs.Loops.{misc_told}
use Rattle.lg_circ.proofs.mark.is_misc.Goals as goal

pub returns : goal.returns
returns c = misc_told c.args.text.now c.skip_misc.result.now c.is_empty.result c.skip_misc.ensures c.is_empty.ensures
