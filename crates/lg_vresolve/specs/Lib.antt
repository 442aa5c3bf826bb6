pub mod Meaning
pub mod Resolved
