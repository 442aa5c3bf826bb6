pub mod BitLemmas
pub mod NetLemmas
pub mod RoleLemmas
pub mod UseLemmas
pub mod OneNetlist
pub mod Validity
pub mod SomeNetlist
