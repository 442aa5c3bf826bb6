use Rattle.std.proofs.Common.{◌≡◌, drop, map}
use Rattle.lg_vrules.specs.Rules.{same, same_each}
use Rattle.lg_vrules.proofs.divisors.+same.Given as goal

-- those that are left decide
abbrev pub invariant-same_each-loop-at : goal.invariant-same_each-loop-at
invariant-same_each-loop-at l = same_each (map same (drop l.at l.exprs)) (drop l.at l.others) ≡ same_each (map same l.exprs) l.others
