use Rattle.std.proofs.Common.{arith}
use Rattle.lg_value.specs.Storage.{length-word_of_planes}
use Rattle.lg_value.proofs.StorageLemmas.{stored_cut, stored_width}
use Rattle.lg_value.proofs.word.Word.cut.Goals as goal

pub low_ones-ones-requires : goal.low_ones-ones-requires
low_ones-ones-requires c = (c.requires.some, omega (arith, c.requires.inside, stored_width (record { stored = c.self.invariant; word_is = c.self.view_is }), c.self.invariant.in_range.1))

pub overflow_shr-a : goal.overflow_shr-a
overflow_shr-a c = omega (arith, c.requires.some, c.requires.inside, stored_width (record { stored = c.self.invariant; word_is = c.self.view_is }), c.self.invariant.in_range.1)

pub overflow_shr-b : goal.overflow_shr-b
overflow_shr-b c = omega (arith, c.requires.some, c.requires.inside, stored_width (record { stored = c.self.invariant; word_is = c.self.view_is }), c.self.invariant.in_range.1)

pub invariant_of-result : goal.invariant_of-result
invariant_of-result c = rw c.low_ones-ones.ensures (stored_cut (record { stored = c.self.invariant; word_is = c.self.view_is }) c.args.low c.args.width c.requires.some c.requires.inside).stored

pub returns-clause-bits : goal.returns-clause-bits
returns-clause-bits c = rw c.low_ones-ones.ensures (stored_cut (record { stored = c.self.invariant; word_is = c.self.view_is }) c.args.low c.args.width c.requires.some c.requires.inside).word_is

pub returns-clause-width : goal.returns-clause-width
returns-clause-width c = length-word_of_planes _ _ _
