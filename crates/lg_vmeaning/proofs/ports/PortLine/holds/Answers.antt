use Rattle.std.proofs.Common.{rules, ◌<◌, ◌≤◌, ◌^◌, arith}
use Rattle.std.proofs.Math.Pow.{pow_mono}
use Rattle.lg_vmeaning.proofs.ports.PortLine.holds.Goals as goal

pub returns-then-self-ge64 : goal.returns-then-self-ge64
returns-then-self-ge64 c =
    let wide : 2 ^ 64 ≤ 2 ^ c.args.self.now.width = pow_mono c.if-self-ge64.true in
    let below : c.args.number < 2 ^ c.args.self.now.width = omega (arith, wide, c.ranges.number.fits) in
    (λ _. below, λ _. search rules)
