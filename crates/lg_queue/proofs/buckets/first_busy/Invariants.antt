use Rattle.std.proofs.Common.{◌≡◌, ℕ, ◌<◌, []}
use Rattle.lg_queue.specs.Buckets.{bucket_at}
use Rattle.lg_queue.proofs.buckets.first_busy.Given as goal

abbrev pub invariant-loop-ahead : goal.invariant-loop-ahead
invariant-loop-ahead l = (earlier : ℕ) → earlier < l.ahead → (bucket_at l.buckets.items earlier).numbers ≡ []
