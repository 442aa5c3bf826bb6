use Rattle.lg_arith.proofs.DefinedLemmas.{sum_in_out, difference_in_out, negation_in_out, product_in_out, quotient_in_out, order_in_out, shift_in_out, count_in_out, extended_in_out}
use Rattle.lg_arith.proofs.law.defined_in_defined_out.Goals as goal

pub returns : goal.returns
returns c = record {
  add = sum_in_out;
  sub = difference_in_out;
  negate = negation_in_out;
  mul = product_in_out;
  div = quotient_in_out;
  compare = order_in_out;
  shift = shift_in_out;
  count_ones = count_in_out;
  extend = extended_in_out;
}
