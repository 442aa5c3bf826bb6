use Rattle.std.proofs.Common.{◌≡◌, drop}
use Rattle.lg_vrules.specs.Indexes.{first_marked_from}
use Rattle.lg_vrules.proofs.depends.first_marked.Given as goal

-- the marks that are left decide
abbrev pub invariant-loop-at : goal.invariant-loop-at
invariant-loop-at l = first_marked_from l.at (drop l.at l.marks) ≡ first_marked_from 0 l.marks
