use Rattle.std.proofs.Common.{Some, sym, ap, ◌∙◌}
use Rattle.lg_vread.proofs.Signs.{operator_comes, no_operator}
use Rattle.lg_vread.proofs.reader.Reader.operator.Goals as goal

pub returns-in-Some : goal.returns-in-Some
returns-in-Some c = operator_comes c.args.self.now c.in-Some.operator (sym c.in-Some.ensures) ∙ ap (λ r. Some (c.in-Some.operator, r)) (sym c.advance.ensures)

pub returns-in-None : goal.returns-in-None
returns-in-None c = no_operator c.args.self.now (sym c.in-None.ensures)
