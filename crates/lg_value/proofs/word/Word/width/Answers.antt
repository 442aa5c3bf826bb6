use Rattle.std.proofs.Common.{sym}
use Rattle.lg_value.proofs.StorageLemmas.{stored_width}
use Rattle.lg_value.proofs.word.Word.width.Goals as goal

pub returns-clause-length : goal.returns-clause-length
returns-clause-length c = sym (stored_width (record { stored = c.self.invariant; word_is = c.self.view_is }))
