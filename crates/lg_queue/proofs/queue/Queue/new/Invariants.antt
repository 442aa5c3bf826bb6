use Rattle.std.proofs.Common.{◌≡◌, length}
use Rattle.std.specs.List.{All}
use Rattle.lg_queue.specs.Buckets.{IsEmptyBucket}
use Rattle.lg_queue.proofs.queue.Queue.new.Given as goal

abbrev pub invariant-loop : goal.invariant-loop
invariant-loop l = record {
  count : length l.buckets.items ≡ l.counter;
  each : All (IsEmptyBucket l.outputs) l.buckets.items;
}
