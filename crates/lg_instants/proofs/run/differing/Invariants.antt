use Rattle.std.proofs.Common.{◌≡◌, ◌+◌, ◌≤◌, drop}
use Rattle.lg_instants.specs.Stepping.{differing}
use Rattle.lg_instants.proofs.run.differing.Given as goal

abbrev pub invariant-loop-i : goal.invariant-loop-i
invariant-loop-i l = record {
  sum : l.count + differing (drop l.i l.before) (drop l.i l.now) ≡ differing l.before l.now;
  few : l.count ≤ l.i;
}
