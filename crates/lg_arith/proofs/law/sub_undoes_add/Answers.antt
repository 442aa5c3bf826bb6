use Rattle.lg_arith.proofs.UndoneLemmas.{difference_undone, sum_undone, sum-negation_of}
use Rattle.lg_arith.proofs.law.sub_undoes_add.Goals as goal

pub returns : goal.returns
returns c = record {
  difference = difference_undone;
  sum = sum_undone;
  negation = sum-negation_of;
}
