pub mod Kept
pub mod Terms
pub mod Machine
