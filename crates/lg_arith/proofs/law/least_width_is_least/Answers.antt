use Rattle.lg_arith.proofs.CountLemmas.{least_width_fits, least_width_least}
use Rattle.lg_arith.proofs.law.least_width_is_least.Goals as goal

pub returns : goal.returns
returns c = record {
  fits = least_width_fits;
  least = least_width_least;
}
