use Rattle.std.proofs.Common.{◌≡◌, length}
use Rattle.lg_queue.proofs.queue.Queue.clear.Given as goal

abbrev pub invariant-loop : goal.invariant-loop
invariant-loop l = record {
  span : l.self.span ≡ l.initial.self.span;
  outputs : l.self.outputs ≡ l.initial.self.outputs;
}

abbrev pub decreases-loop : goal.decreases-loop
decreases-loop l = length l.self.items
