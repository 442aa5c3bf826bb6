use Rattle.std.proofs.Common.{◌≤◌, ◌^◌, ℕ, arith}
use Rattle.lg_ports.specs.Ranges.{Says}
use Rattle.lg_ports.proofs.range.is_literal.Goals as goal

pub returns-in-None : goal.returns-in-None
returns-in-None c =
    let past : (n : ℕ) → Says c.args.text.now n → 2 ^ 64 ≤ n = c.in-None.ensures in
    (λ t. absurd (cc t), λ l. absurd (omega (arith, l.2, past l.0 l.1)))
