use Rattle.std.proofs.Common.{length}
use Rattle.lg_vrows.proofs.InputLemmas.{AreInputsTo}
use Rattle.lg_vrows.proofs.inputs.row_of.Given as goal

-- the columns so far have given their numbers
abbrev pub invariant-loop-index : goal.invariant-loop-index
invariant-loop-index l = AreInputsTo (length l.yielded) l.inputs l.indexes l.row l.numbers.items
