use Rattle.std.proofs.Common.{◌≡◌, ◌++◌, drop, map}
use Rattle.lg_vrules.specs.Indexes.{index_under, indexes_of}
use Rattle.lg_vrules.specs.Depends.{names_read}
use Rattle.lg_vrules.proofs.indexes.Indexes.graph.Given as goal

-- the nodes so far and those that are left are all
abbrev pub invariant-loop-assign : goal.invariant-loop-assign
invariant-loop-assign l =
    l.graph.items ++ map (λ assign. indexes_of (index_under l.self) (names_read assign.value)) (drop l.assign-index l.assigns) ≡ map (λ assign. indexes_of (index_under l.self) (names_read assign.value)) l.assigns
