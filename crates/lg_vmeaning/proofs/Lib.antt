pub mod InOrderLemmas
pub mod NameLemmas
pub mod OrderLemmas
pub mod ValidLemmas
pub mod RunLemmas
pub mod StartLemmas
pub mod EdgeLemmas
mod SortLemmas
mod SpotLemmas
mod WordLemmas
mod RowLemmas
mod CompiledLemmas
