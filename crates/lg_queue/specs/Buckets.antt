-- Buckets of numbers, one for each instant, and the items that they stand for.
use Rattle.std.specs.Prelude.{◌≡◌, ◌≢◌, ℕ, ◌+◌, ◌<◌, ◌≤◌, ◌^◌, nat_lt, List, [], ◌∷◌, ◌++◌, length, map, sum, slice_index_or}
use Rattle.lg_queue.specs.NumberSet.{NumberSet}
use Rattle.lg_queue.specs.Numbering.{place_of}
use Rattle.lg_queue.specs.Order.{StandsIn, IsRising}
use Rattle.lg_queue.specs.Pending.{Item}

-- the item of a number at an instant
abbrev pub item_at : List ℕ → ℕ → ℕ → Item
item_at outputs instant number = (instant, (place_of outputs number).0, (place_of outputs number).1)

-- the items of buckets, of which the first is that of some instant
abbrev pub items_from : List ℕ → ℕ → List NumberSet → List Item
items_from outputs instant [] = []
items_from outputs instant (bucket ∷ buckets) = map (item_at outputs instant) bucket.numbers ++ items_from outputs (instant + 1) buckets

-- a bucket that has nothing
unfoldable pub no_bucket : NumberSet
no_bucket = record { room = 0; numbers = [] }

-- the bucket so many instants ahead
abbrev pub bucket_at : List NumberSet → ℕ → NumberSet
bucket_at buckets ahead = slice_index_or buckets ahead no_bucket

-- what holds of a bucket: its numbers rise, each is that of an output of a part that fits 32 bits, and all of them have room
pub record IsBucket (outputs : List ℕ) (bucket : NumberSet) : Type 0 where
  pub rising : IsRising nat_lt bucket.numbers
  pub each : (number : ℕ) → StandsIn number bucket.numbers → (number < sum outputs) × ((place_of outputs number).0 < 2 ^ 32)
  pub room : sum outputs ≤ bucket.room

-- the first bucket that has a number
pub record IsFirstBusy (buckets : List NumberSet) (ahead : ℕ) : Type 0 where
  pub within : ahead < length buckets
  pub busy : (bucket_at buckets ahead).numbers ≢ []
  pub before : (earlier : ℕ) → earlier < ahead → (bucket_at buckets earlier).numbers ≡ []

-- no bucket has a number
abbrev pub AreIdle : List NumberSet → Type 0
AreIdle buckets = (ahead : ℕ) → ahead < length buckets → (bucket_at buckets ahead).numbers ≡ []

-- no bucket of an instant past the last u64 has a number
abbrev pub AreInRange : ℕ → List NumberSet → Type 0
AreInRange instant buckets = (ahead : ℕ) → ahead < length buckets → (bucket_at buckets ahead).numbers ≢ [] → instant + ahead < 2 ^ 64

-- a bucket that has nothing, and room for all outputs
pub record IsEmptyBucket (outputs : List ℕ) (bucket : NumberSet) : Type 0 where
  pub none : bucket.numbers ≡ []
  pub room : sum outputs ≤ bucket.room
