-- What a queue keeps.
use Rattle.std.specs.Prelude.{◌-◌, ◌<◌, ◌≤◌, length}
use Rattle.std.specs.List.{All}
use Rattle.lg_queue.specs.declared.queue.Queue.TheInside.{Inside}
use Rattle.lg_queue.specs.Buckets.{IsBucket, AreInRange, items_from}
use Rattle.lg_queue.specs.Pending.{Pending}

-- one bucket or more, and at most 256
pub record IsQueue (s : Inside) : Type 0 where
  pub buckets : 0 < length s.buckets.items
  pub few : length s.buckets.items ≤ 256
  pub each : All (IsBucket s.outputs) s.buckets.items
  pub in_range : AreInRange s.instant s.buckets.items

-- what the buckets stand for
abbrev pub pending_of : Inside → Pending
pending_of s = record {
  current = s.instant;
  span = length s.buckets.items - 1;
  outputs = s.outputs;
  items = items_from s.outputs s.instant s.buckets.items;
}
