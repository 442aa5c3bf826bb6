-- The nodes so far are done.
use Rattle.std.proofs.Common.{◌≡◌, ◌<◌, ℕ, [], None}
use Rattle.lg_graph.specs.declared.search.Place.TheVariants.{New}
use Rattle.lg_graph.specs.Search.{IsSearch, place_of}
use Rattle.lg_graph.proofs.sorting.sort.Given as goal

abbrev pub invariant-loop-node : goal.invariant-loop-node
invariant-loop-node l = record {
  searching : IsSearch l.graph None l.search;
  ended : l.search.path ≡ [];
  met : (n : ℕ) → n < l.node → place_of l.search n ≡ New → ⊥;
}
