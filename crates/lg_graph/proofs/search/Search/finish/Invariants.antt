-- The nodes that were taken off the path are done.
use Rattle.std.proofs.Common.{◌≤◌, length}
use Rattle.lg_graph.specs.Search.{IsFinished}
use Rattle.lg_graph.proofs.search.Search.finish.Given as goal

abbrev pub invariant-loop-self : goal.invariant-loop-self
invariant-loop-self l = record {
  low : l.first ≤ length l.self.path;
  high : length l.self.path ≤ length l.initial.self.path;
  finished : IsFinished (length l.self.path) l.looped l.initial.self l.self;
}

abbrev pub decreases-loop-self : goal.decreases-loop-self
decreases-loop-self l = length l.self.path
