mod Fields
mod WayLemmas
mod GroupLemmas
mod WorkLemmas
mod VisitLemmas
mod JoinLemmas
mod ClosedNodes
mod CloseLemmas
mod FinishLemmas
mod StepLemmas
mod SortedLemmas
pub mod Ways
