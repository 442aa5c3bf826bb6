use Rattle.std.proofs.Common.{sym, ◌∙◌}
use Rattle.lg_value.specs.Storage.{length-word_of_planes}
use Rattle.lg_value.proofs.StorageLemmas.{stored_xor, stored_width}
use Rattle.lg_value.proofs.word.Word.xor.Goals as goal

pub invariant_of-result : goal.invariant_of-result
invariant_of-result c = (stored_xor (record { stored = c.self.invariant; word_is = c.self.view_is }) (record { stored = c.other.invariant; word_is = c.other.view_is }) c.requires).stored

pub returns-clause-bits : goal.returns-clause-bits
returns-clause-bits c = (stored_xor (record { stored = c.self.invariant; word_is = c.self.view_is }) (record { stored = c.other.invariant; word_is = c.other.view_is }) c.requires).word_is

pub returns-clause-width : goal.returns-clause-width
returns-clause-width c = length-word_of_planes _ _ _ ∙ sym (stored_width (record { stored = c.self.invariant; word_is = c.self.view_is }))
