use Rattle.std.proofs.Common.{◌≡◌, ℕ, ◌≤◌}
use Rattle.lg_nets.specs.Forest.{PointDown, Represents}
use Rattle.lg_nets.proofs.components.find.Given as goal

-- the number so far is in the class of the first one, and no class is changed
abbrev pub invariant-loop-parents : goal.invariant-loop-parents
invariant-loop-parents l = record {
  down : PointDown l.parents;
  low : l.at ≤ l.number;
  keeps : (rep : ℕ → ℕ) → Represents rep l.initial.parents → Represents rep l.parents;
  same : (rep : ℕ → ℕ) → Represents rep l.initial.parents → rep l.at ≡ rep l.number;
}

abbrev pub decreases-loop-parents : goal.decreases-loop-parents
decreases-loop-parents l = l.at
