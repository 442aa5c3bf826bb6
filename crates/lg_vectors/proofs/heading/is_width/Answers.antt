use Rattle.std.proofs.Common.{◌≡◌, ◌+◌, ◌/◌, ◌%◌, [], ◌∷◌, sym, ◌∙◌}
use Rattle.std.specs.Bool.{Decides}
use Rattle.std.proofs.lemmas.Bool.Decides.{Decides-eqb}
use Rattle.std.proofs.lemmas.Slice.Eq.{slice_eq-Decides}
use Rattle.lg_vectors.proofs.HeadingLemmas.{one_digit, two_digits}
use Rattle.lg_vectors.proofs.heading.is_width.Goals as goal

pub returns-then-width-lt10 : goal.returns-then-width-lt10
returns-then-width-lt10 c =
    let spelled : c.as_slice.result.now ≡ 91 ∷ (48 + c.args.width % 10) ∷ 93 ∷ [] = c.as_slice.ensures in
    let same = one_digit c.args.width c.if-width-lt10.true in
    let told : Decides c.eq.result (c.args.text.now ≡ c.as_slice.result.now) = slice_eq-Decides Decides-eqb c.args.text.now c.as_slice.result.now c.eq.result c.eq.ensures in
    (λ t. told.0 t ∙ spelled ∙ sym same, λ e. told.1 (e ∙ same ∙ sym spelled))

pub returns-else-width-lt10 : goal.returns-else-width-lt10
returns-else-width-lt10 c =
    let slice = c.as_slice-else-width-lt10.result.now in
    let spelled : slice ≡ 91 ∷ (48 + c.args.width / 10) ∷ (48 + c.args.width % 10) ∷ 93 ∷ [] = c.as_slice-else-width-lt10.ensures in
    let same = two_digits c.args.width c.if-width-lt10.false c.requires in
    let told : Decides c.eq-else-width-lt10.result (c.args.text.now ≡ slice) = slice_eq-Decides Decides-eqb c.args.text.now slice c.eq-else-width-lt10.result c.eq-else-width-lt10.ensures in
    (λ t. told.0 t ∙ spelled ∙ sym same, λ e. told.1 (e ∙ same ∙ sym spelled))
