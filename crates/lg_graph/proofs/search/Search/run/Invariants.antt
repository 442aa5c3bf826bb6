-- The node was met, and each step leaves less work.
use Rattle.std.proofs.Common.{◌≡◌, None}
use Rattle.lg_graph.specs.declared.search.Place.TheVariants.{New}
use Rattle.lg_graph.specs.Search.{IsSearch, place_of, KeepsMet, work}
use Rattle.lg_graph.proofs.search.Search.run.Given as goal

abbrev pub invariant-loop-self : goal.invariant-loop-self
invariant-loop-self l = record {
  searching : IsSearch l.graph None l.self;
  met : place_of l.self l.node ≡ New → ⊥;
  keeps : KeepsMet l.fn.self l.self;
}

abbrev pub decreases-loop-self : goal.decreases-loop-self
decreases-loop-self l = work l.graph l.self
