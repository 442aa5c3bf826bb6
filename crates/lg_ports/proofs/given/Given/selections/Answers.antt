use Rattle.std.proofs.Common.{arith}
use Rattle.lg_ports.proofs.NumberLemmas.{pow_small}
use Rattle.lg_ports.proofs.given.Given.selections.Goals as goal

pub returns-clause-small : goal.returns-clause-small
returns-clause-small c = omega (arith, pow_small c.min.result)
