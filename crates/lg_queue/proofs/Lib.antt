pub mod BucketLemmas
pub mod ItemLemmas
pub mod LevelLemmas
pub mod NumberLemmas
pub mod NumberingLemmas
pub mod OrderLemmas
pub mod QueueLemmas
pub mod RowLemmas
