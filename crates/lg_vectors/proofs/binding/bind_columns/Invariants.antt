use Rattle.std.proofs.Common.{take, []}
use Rattle.lg_vectors.specs.Binding.{column_names, AreBound}
use Rattle.lg_vectors.specs.Known.{KnowsNames}
use Rattle.lg_vectors.proofs.binding.bind_columns.Given as goal

-- the columns so far are bound, and their names are known
abbrev pub invariant-loop-at : goal.invariant-loop-at
invariant-loop-at l = record {
  bound : AreBound [] l.pins (take l.at l.columns) l.places;
  seen : KnowsNames (column_names (take l.at l.columns)) l.seen;
}
