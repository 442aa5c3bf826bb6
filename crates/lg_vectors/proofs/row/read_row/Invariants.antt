use Rattle.std.proofs.Common.{take}
use Rattle.lg_vectors.specs.VectorText.{words}
use Rattle.lg_vectors.proofs.RowLemmas.{ValuesSoFar}
use Rattle.lg_vectors.proofs.row.read_row.Given as goal

abbrev pub invariant-loop-column : goal.invariant-loop-column
invariant-loop-column l = ValuesSoFar (take l.column-index l.columns) (words l.text) (words l.rest) l.row
