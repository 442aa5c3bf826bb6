use Rattle.std.proofs.Common.{arith, ◌∙◌}
use Rattle.lg_value.specs.Storage.{length-word_of_planes}
use Rattle.lg_value.proofs.StorageLemmas.{stored_glue, stored_width}
use Rattle.lg_value.proofs.word.Word.glue.Goals as goal

pub overflow_shl-result : goal.overflow_shl-result
overflow_shl-result c = omega (arith, c.requires, stored_width (record { stored = c.self.invariant; word_is = c.self.view_is }), stored_width (record { stored = c.high.invariant; word_is = c.high.view_is }), c.high.invariant.in_range.0)

pub overflow_shl-result-2 : goal.overflow_shl-result-2
overflow_shl-result-2 c = omega (arith, c.requires, stored_width (record { stored = c.self.invariant; word_is = c.self.view_is }), stored_width (record { stored = c.high.invariant; word_is = c.high.view_is }), c.high.invariant.in_range.0)

pub invariant_of-result : goal.invariant_of-result
invariant_of-result c = (stored_glue (record { stored = c.self.invariant; word_is = c.self.view_is }) (record { stored = c.high.invariant; word_is = c.high.view_is }) c.requires).stored

pub returns-clause-bits : goal.returns-clause-bits
returns-clause-bits c = (stored_glue (record { stored = c.self.invariant; word_is = c.self.view_is }) (record { stored = c.high.invariant; word_is = c.high.view_is }) c.requires).word_is

pub returns-clause-width : goal.returns-clause-width
returns-clause-width c =
    length-word_of_planes _ _ _ ∙ omega (arith, stored_width (record { stored = c.self.invariant; word_is = c.self.view_is }), stored_width (record { stored = c.high.invariant; word_is = c.high.view_is }))
