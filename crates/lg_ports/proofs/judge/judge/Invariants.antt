use Rattle.std.proofs.Common.{take}
use Rattle.std.specs.Prelude.{map}
use Rattle.std.specs.List.{All}
use Rattle.lg_ports.specs.Given.{seen_given}
use Rattle.lg_ports.specs.Judged.{RowFits}
use Rattle.lg_kinds.specs.Rows.{seen_attribute}
use Rattle.lg_ports.proofs.judge.judge.Given as goal

-- the rows so far are in their ranges
abbrev pub invariant-loop-row : goal.invariant-loop-row
invariant-loop-row l = All (RowFits (seen_given l.given)) (take l.row-index (map seen_attribute l.row-items))
