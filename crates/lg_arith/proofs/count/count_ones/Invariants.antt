use Rattle.std.proofs.Common.{◌≡◌, ◌≤◌, ◌*◌, take}
use Rattle.lg_arith.specs.Count.{ones_of, greatest_count}
use Rattle.lg_arith.proofs.count.count_ones.Given as goal

abbrev pub invariant-loop-input : goal.invariant-loop-input
invariant-loop-input l = record {
  greatest : l.greatest ≡ greatest_count (take l.input-index l.inputs);
  ones : l.ones ≡ ones_of (take l.input-index l.inputs);
  small : l.greatest ≤ 64 * l.input-index;
  few : l.ones ≤ l.greatest;
  some : l.input-index ≤ l.greatest;
}
