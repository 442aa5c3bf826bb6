use Rattle.std.proofs.Common.{◌≡◌, ℕ, ◌+◌, ◌-◌, ◌*◌, ◌%◌, ◌^◌, ◌≤◌, pow_mono, sym, ap, ◌∙◌, arith}
use Rattle.lg_vrules.specs.Rules.{width_from}
use Rattle.lg_vrules.proofs.AddressWidthLemmas.{not_this}
use Rattle.lg_vrules.proofs.addressing.address_width.Goals as goal

pub loop-width-preserved : goal.loop-width-preserved
loop-width-preserved c =
    let w = c.loop-width.width in
    let last = c.args.last in
    let less : 21 - (w + 1) ≡ 21 - w - 1 = omega arith in
    let small : 2 ^ w ≤ 2 ^ 20 = pow_mono c.loop-width-test.true in
    let exact : 2 ^ w - 1 ≡ 1 * 2 ^ w % 340282366920938463463374607431768211456 - 1 = omega (arith, small) in
    ap (λ (k : ℕ). width_from k (w + 1) (last + 1)) less ∙ (sym (not_this (21 - w) w last (omega arith) (λ e. c.if-last-width.false (e ∙ exact))) ∙ c.loop-width.invariant)
