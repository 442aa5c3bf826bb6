use Rattle.lg_value.proofs.StorageLemmas.{defined_by_second}
use Rattle.lg_value.proofs.word.Word.defined.Goals as goal

pub returns : goal.returns
returns c = defined_by_second (record { stored = c.self.invariant; word_is = c.self.view_is })
