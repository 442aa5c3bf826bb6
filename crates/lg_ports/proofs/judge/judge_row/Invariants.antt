use Rattle.std.proofs.Common.{ℕ, ◌<◌}
use Rattle.lg_ports.specs.Given.{seen_given}
use Rattle.lg_ports.specs.Judged.{EntryFits}
use Rattle.lg_kinds.specs.Rows.{seen_attribute}
use Rattle.lg_ports.proofs.judge.judge_row.Given as goal

-- the attributes so far are in their range
abbrev pub invariant-loop-k : goal.invariant-loop-k
invariant-loop-k l = (j : ℕ) → j < l.k → EntryFits (seen_given l.given) (seen_attribute l.row) j
