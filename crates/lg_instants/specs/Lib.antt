pub mod Plain
pub mod Stepping
pub mod Rows
