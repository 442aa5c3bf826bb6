use Rattle.lg_queue.proofs.RowLemmas.{is_none}
use Rattle.lg_queue.proofs.row.is_none_in.Goals as goal

pub returns : goal.returns
returns c = is_none c.args.words.now c.args.word (c.type_inv.words c.args.word).fits
