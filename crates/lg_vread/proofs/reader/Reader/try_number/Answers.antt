use Rattle.std.proofs.Common.{Some, refl, sym, ap, ◌∙◌}
use Rattle.lg_vread.proofs.Taking.{number_comes, no_number_comes}
use Rattle.lg_vread.proofs.reader.Reader.try_number.Goals as goal

pub returns-in_err-number : goal.returns-in_err-number
returns-in_err-number c =
    rw c.from_residual.ensures (no_number_comes c.args.self.now (sym c.in_err-number.ensures), refl)

pub returns : goal.returns
returns c =
    number_comes c.args.self.now c.in_ok-number.number (sym c.in_ok-number.ensures) ∙ ap (λ r. Some (c.in_ok-number.number, r)) (sym c.advance.ensures)
