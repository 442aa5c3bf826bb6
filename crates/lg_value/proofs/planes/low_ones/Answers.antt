use Rattle.std.proofs.Common.{◌≡◌, ◌-◌, ap, ◌∙◌, arith, ◌^◌}
use Rattle.std.proofs.lemmas.Nat.Bits.{ones_shr}
use Rattle.lg_value.proofs.planes.low_ones.Goals as goal

pub returns : goal.returns
returns c =
    let back : 64 - (64 - c.args.width) ≡ c.args.width = omega (arith, c.requires.1) in
    ones_shr 64 (64 - c.args.width) (omega arith) ∙ ap (λ n. 2 ^ n - 1) back
