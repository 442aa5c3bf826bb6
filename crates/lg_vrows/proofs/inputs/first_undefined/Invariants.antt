use Rattle.std.proofs.Common.{take}
use Rattle.std.specs.Prelude.{All}
use Rattle.lg_vrows.specs.Rows.{IsDefinedRow}
use Rattle.lg_vrows.proofs.inputs.first_undefined.Given as goal

-- the rows so far are defined
abbrev pub invariant-loop-at : goal.invariant-loop-at
invariant-loop-at l = All IsDefinedRow (take l.at l.rows)
