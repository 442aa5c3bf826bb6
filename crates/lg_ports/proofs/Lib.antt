pub mod NumberLemmas
pub mod JudgeLemmas
pub mod LiteralLemmas
pub mod RowLemmas
pub mod GrowingLemmas
pub mod ContentsLemmas
pub mod DelayLemmas
mod SoundLemmas
mod WideLemmas
mod NearLemmas
pub mod BoundLemmas
