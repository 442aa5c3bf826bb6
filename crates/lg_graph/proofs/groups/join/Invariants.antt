-- What was popped begins later than the place; with the last group it is what there was.
use Rattle.std.proofs.Common.{◌≡◌, ◌<◌, List, ◌∷◌, ◌++◌, length}
use Rattle.std.specs.Prelude.{All}
use Rattle.lg_graph.specs.declared.groups.Group.{Group}
use Rattle.lg_graph.proofs.groups.join.Given as goal

abbrev pub invariant-loop-last : goal.invariant-loop-last
invariant-loop-last l = (after : List Group) × (l.fn.groups ≡ l.groups ++ l.last ∷ after) × All (λ (g : Group). l.place < g.first) after

abbrev pub decreases-loop-last : goal.decreases-loop-last
decreases-loop-last l = length l.groups
