use Rattle.lg_value.proofs.DriverLemmas.{joined_in_turn_lem, joined_in_turn-IsPermutation, join_of_drivers-append}
use Rattle.lg_value.proofs.bit.join_is_order_free.Goals as goal

pub returns : goal.returns
returns c = record {
  in_turn = joined_in_turn_lem;
  any_order = joined_in_turn-IsPermutation;
  parts = join_of_drivers-append;
}
