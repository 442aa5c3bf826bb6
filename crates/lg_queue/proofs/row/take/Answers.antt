use Rattle.lg_queue.proofs.RowLemmas.{taken}
use Rattle.lg_queue.proofs.row.take.Goals as goal

pub returns : goal.returns
returns c = taken c.args.words.now c.args.number c.requires
