pub mod Names
pub mod NextNumbers
pub mod Numbering
