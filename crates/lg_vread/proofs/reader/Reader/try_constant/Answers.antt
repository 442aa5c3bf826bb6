use Rattle.std.proofs.Common.{Some, refl, sym, ap, ◌∙◌}
use Rattle.lg_vread.proofs.Taking.{constant_comes, no_constant_comes}
use Rattle.lg_vread.proofs.reader.Reader.try_constant.Goals as goal

pub returns-in_err-constant : goal.returns-in_err-constant
returns-in_err-constant c =
    rw c.from_residual.ensures (no_constant_comes c.args.self.now (sym c.in_err-constant.ensures), refl)

pub returns : goal.returns
returns c =
    constant_comes c.args.self.now c.in_ok-constant.constant (sym c.in_ok-constant.ensures) ∙ ap (λ r. Some (c.in_ok-constant.constant, r)) (sym c.advance.ensures)
