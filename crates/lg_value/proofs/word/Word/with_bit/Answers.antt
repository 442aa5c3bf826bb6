use Rattle.std.proofs.Common.{◌<◌, arith, set, sym, ◌∙◌}
use Rattle.lg_value.specs.Storage.{Stores, length-word_of_planes}
use Rattle.lg_value.proofs.StorageLemmas.{stored_width, stored_set}
use Rattle.lg_value.proofs.word.Word.with_bit.Goals as goal
use Rattle.lg_value.proofs.word.Word.with_bit.Goals.{After-with_digit-2}

stores_result : (c : After-with_digit-2) → Stores c.self.inside.width c.with_digit.result c.with_digit-2.result (set c.args.self.now c.args.i c.args.b)
stores_result c =
    let own : Stores c.self.inside.width c.self.inside.a c.self.inside.b c.args.self.now = record { stored = c.self.invariant; word_is = c.self.view_is } in
    let below : c.args.i < c.self.inside.width = omega (arith, c.requires, stored_width own) in
    stored_set own c.args.i c.with_digit.result c.with_digit-2.result c.args.b c.requires
    (c.with_digit.ensures.fits c.self.inside.width below c.self.invariant.first)
    (c.with_digit-2.ensures.fits c.self.inside.width below c.self.invariant.second)
    (λ i inside. rw c.first_digit.ensures at (c.with_digit.ensures.digits i inside))
    (λ i inside. rw c.second_digit.ensures at (c.with_digit-2.ensures.digits i inside))

pub with_digit-requires-clause-inside : goal.with_digit-requires-clause-inside
with_digit-requires-clause-inside c = omega (arith, c.requires, stored_width (record { stored = c.self.invariant; word_is = c.self.view_is }), c.self.invariant.in_range.1)

pub with_digit-requires-2-clause-inside : goal.with_digit-requires-2-clause-inside
with_digit-requires-2-clause-inside c = omega (arith, c.requires, stored_width (record { stored = c.self.invariant; word_is = c.self.view_is }), c.self.invariant.in_range.1)

pub invariant_of-result : goal.invariant_of-result
invariant_of-result c = (stores_result c).stored

pub returns-clause-bits : goal.returns-clause-bits
returns-clause-bits c = (stores_result c).word_is

pub returns-clause-width : goal.returns-clause-width
returns-clause-width c = length-word_of_planes _ _ _ ∙ sym (stored_width (record { stored = c.self.invariant; word_is = c.self.view_is }))
