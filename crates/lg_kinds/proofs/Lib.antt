mod LastLemmas
mod IndexLemmas
mod LatestLemmas
pub mod KindLemmas
mod CellLemmas
mod FormLemmas
mod TableLemmas
mod NearLemmas
mod SameRecords
mod RowsReached
mod SomeRecords
pub mod OneTable
pub mod SomeTable
