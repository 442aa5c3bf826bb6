use Rattle.std.proofs.Common.{arith}
use Rattle.lg_value.proofs.StorageLemmas.{chosen_at, chosen_below}
use Rattle.lg_value.proofs.planes.chosen.Goals as goal

pub returns-clause-digits : goal.returns-clause-digits
returns-clause-digits c = λ i inside. chosen_at c.args.plane c.args.low c.args.high i (omega arith) inside

pub returns-clause-fits : goal.returns-clause-fits
returns-clause-fits c = λ width small less. chosen_below c.args.plane c.args.low c.args.high width small less
