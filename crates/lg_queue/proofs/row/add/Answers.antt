use Rattle.lg_queue.proofs.RowLemmas.{added}
use Rattle.lg_queue.proofs.row.add.Goals as goal

pub returns : goal.returns
returns c = added c.args.words.now c.args.number c.requires
