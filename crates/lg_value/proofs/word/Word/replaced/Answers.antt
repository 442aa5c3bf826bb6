use Rattle.std.proofs.Common.{◌<◌, arith, map, sym, ◌∙◌}
use Rattle.std.specs.Int.{bit_at}
use Rattle.lg_value.specs.Storage.{Stores, picked, length-word_of_planes}
use Rattle.lg_value.proofs.StorageLemmas.{stored_width, stored_map, stored_one_bit, one_bit_at, picked_digits}
use Rattle.std.proofs.lemmas.Nat.Bits.{bit_at-lt}
use Rattle.lg_value.proofs.word.Word.replaced.Goals as goal
use Rattle.lg_value.proofs.word.Word.replaced.Goals.{After-chosen-6}

stores_result : (c : After-chosen-6) → Stores c.self.inside.width c.chosen-3.result c.chosen-6.result (map (picked c.args.zero c.args.one c.args.unknown c.args.error) c.args.self.now)
stores_result c =
    let width = c.self.inside.width in
    let a = c.self.inside.a in
    let b = c.self.inside.b in
    let own : Stores width a b c.args.self.now = record { stored = c.self.invariant; word_is = c.self.view_is } in
    let zeros = stored_one_bit (record { stored = c.zeros.invariant; word_is = c.zeros.view_is }) width c.args.zero c.fill-zeros.ensures.bits in
    let ones = stored_one_bit (record { stored = c.ones.invariant; word_is = c.ones.view_is }) width c.args.one c.fill-ones.ensures.bits in
    let unknowns = stored_one_bit (record { stored = c.unknowns.invariant; word_is = c.unknowns.view_is }) width c.args.unknown c.fill-unknowns.ensures.bits in
    let errors = stored_one_bit (record { stored = c.errors.invariant; word_is = c.errors.view_is }) width c.args.error c.fill-errors.ensures.bits in
    stored_map own (picked c.args.zero c.args.one c.args.unknown c.args.error) c.chosen-3.result c.chosen-6.result
    (c.chosen-3.ensures.fits width (c.chosen.ensures.fits width zeros.stored.first ones.stored.first) (c.chosen-2.ensures.fits width unknowns.stored.first errors.stored.first))
    (c.chosen-6.ensures.fits width (c.chosen-4.ensures.fits width zeros.stored.second ones.stored.second) (c.chosen-5.ensures.fits width unknowns.stored.second errors.stored.second))
    (λ i inside.
    let top : i < 64 = omega (arith, inside, c.self.invariant.in_range.1) in
    let zero = one_bit_at zeros i inside in
    let one = one_bit_at ones i inside in
    let unknown = one_bit_at unknowns i inside in
    let error = one_bit_at errors i inside in
    let bits = picked_digits (bit_at a i) (bit_at b i) (bit_at c.zeros.inside.a i) (bit_at c.zeros.inside.b i) (bit_at c.ones.inside.a i) (bit_at c.ones.inside.b i) (bit_at c.unknowns.inside.a i) (bit_at c.unknowns.inside.b i) (bit_at c.errors.inside.a i) (bit_at c.errors.inside.b i) (bit_at-lt a i) (bit_at-lt b i) in
    rw (c.chosen-3.ensures.digits i top, c.chosen.ensures.digits i top, c.chosen-2.ensures.digits i top, c.chosen-6.ensures.digits i top, c.chosen-4.ensures.digits i top, c.chosen-5.ensures.digits i top)
    (rw (zero, one, unknown, error) at bits))

pub invariant_of-result : goal.invariant_of-result
invariant_of-result c = (stores_result c).stored

pub returns-clause-bits : goal.returns-clause-bits
returns-clause-bits c = (stores_result c).word_is

pub returns-clause-width : goal.returns-clause-width
returns-clause-width c = length-word_of_planes _ _ _ ∙ sym (stored_width (record { stored = c.self.invariant; word_is = c.self.view_is }))
