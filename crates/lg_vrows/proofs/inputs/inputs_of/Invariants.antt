use Rattle.std.proofs.Common.{take}
use Rattle.std.specs.List.{AllZip}
use Rattle.lg_vrows.specs.Rows.{AreInputs}
use Rattle.lg_vrows.proofs.inputs.inputs_of.Given as goal

-- the rows so far have numbers
abbrev pub invariant-loop-row : goal.invariant-loop-row
invariant-loop-row l = AllZip (AreInputs l.inputs l.indexes) (take l.row-index l.rows) l.numbers.items
