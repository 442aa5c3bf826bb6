use Rattle.lg_arith.proofs.WholeLemmas.{sum_whole, difference_whole, product_whole, quotient_whole, remainder_less}
use Rattle.lg_arith.proofs.law.outputs_make_the_whole.Goals as goal

pub returns : goal.returns
returns c = record {
  sum = sum_whole;
  difference = difference_whole;
  product = product_whole;
  quotient = quotient_whole;
  remainder = remainder_less;
}
