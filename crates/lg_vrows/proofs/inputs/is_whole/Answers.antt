use Rattle.std.proofs.Common.{◌≡◌, ℕ, List, length, sym, ap, subst, ◌∙◌}
use Rattle.std.specs.Prelude.{All, replicate}
use Rattle.lg_value.specs.declared.bit.Bit.{Bit}
use Rattle.lg_value.specs.declared.bit.Bit.TheVariants.{One}
use Rattle.lg_vrows.proofs.InputLemmas.{all_ones, ones_all}
use Rattle.lg_vrows.proofs.inputs.is_whole.Goals as goal

pub returns : goal.returns
returns c =
    let care : List Bit = c.args.value.now.care in
    let width : c.width.result ≡ length care = c.width.ensures.length ∙ ap (λ (word : List Bit). length word) c.care-care.ensures.bits in (
      λ same. let e : care ≡ replicate c.width.result One = sym c.care-care.ensures.bits ∙ (c.eq.ensures.same.0 same ∙ c.fill.ensures.bits) in
          subst (All (λ (bit : Bit). bit ≡ One)) (sym e) (ones_all c.width.result),
      λ whole. let e : care ≡ replicate (length care) One = all_ones care whole in
          c.eq.ensures.same.1 (c.care-care.ensures.bits ∙ (e ∙ (ap (λ (n : ℕ). replicate n One) (sym width) ∙ sym c.fill.ensures.bits))),
    )
