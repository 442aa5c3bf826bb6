use Rattle.lg_queue.proofs.RowLemmas.{some_within, some_not_zero, lowest}
use Rattle.lg_queue.proofs.row.least_in.Goals as goal

pub bounds-words-word : goal.bounds-words-word
bounds-words-word c = some_within c.args.words.now c.args.word c.requires.some

pub returns : goal.returns
returns c = lowest c.args.words.now c.args.word (some_not_zero c.args.words.now c.args.word c.requires.some) (c.type_inv.words c.args.word).fits
