pub mod BitLemmas
pub mod DriverLemmas
pub mod WordLemmas
pub mod StorageLemmas
