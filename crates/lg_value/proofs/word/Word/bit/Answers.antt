use Rattle.std.proofs.Common.{◌<◌, arith, ap, ◌∙◌}
use Rattle.std.specs.Prelude.{Some}
use Rattle.std.proofs.lemmas.Option.{slice_get-get_or}
use Rattle.lg_value.specs.declared.bit.Bit.TheVariants.{Zero}
use Rattle.lg_value.proofs.StorageLemmas.{stored_bit, stored_width}
use Rattle.lg_value.proofs.word.Word.bit.Goals as goal

pub digit_at-requires : goal.digit_at-requires
digit_at-requires c = omega (arith, c.requires, stored_width (record { stored = c.self.invariant; word_is = c.self.view_is }), c.self.invariant.in_range.1)

pub digit_at-requires-2 : goal.digit_at-requires-2
digit_at-requires-2 c = omega (arith, c.requires, stored_width (record { stored = c.self.invariant; word_is = c.self.view_is }), c.self.invariant.in_range.1)

pub returns : goal.returns
returns c =
    let inside : c.args.i < c.self.inside.width = omega (arith, c.requires, stored_width (record { stored = c.self.invariant; word_is = c.self.view_is })) in
    rw (c.bit_of_digits.ensures, c.digit_at.ensures, c.digit_at-2.ensures)
    (slice_get-get_or c.args.self.now c.args.i Zero c.requires ∙ ap Some (stored_bit (record { stored = c.self.invariant; word_is = c.self.view_is }) c.args.i Zero inside))
