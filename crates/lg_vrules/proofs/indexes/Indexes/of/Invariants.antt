use Rattle.std.proofs.Common.{map, take}
use Rattle.lg_vrules.specs.Indexes.{KnowsIndexes}
use Rattle.lg_vrules.proofs.indexes.Indexes.of.Given as goal

-- the names so far are known
abbrev pub invariant-loop-at : goal.invariant-loop-at
invariant-loop-at l = KnowsIndexes (map (λ name. name.now) (take l.at l.names)) (record { indexes = l.indexes })
