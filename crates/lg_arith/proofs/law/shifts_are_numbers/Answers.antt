use Rattle.lg_arith.proofs.ShiftNumbers.{number_of-moved_left, number_of-moved_right, number_of-ones_above, number_of-turned}
use Rattle.lg_arith.proofs.law.shifts_are_numbers.Goals as goal

pub returns : goal.returns
returns c = record {
  left = number_of-moved_left;
  right = number_of-moved_right;
  ones_above = number_of-ones_above;
  roll = number_of-turned;
}
