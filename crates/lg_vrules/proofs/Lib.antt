mod DivisorLemmas
pub mod GraphLemmas
pub mod NameIndexLemmas
mod AddressWidthLemmas
mod InsideLemmas
pub mod NameLemmas
mod OnceLemmas
mod IndexesLemmas
pub mod RuleLemmas
mod WidthLemmas
