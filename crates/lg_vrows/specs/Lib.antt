pub mod Faults
pub mod Rows
pub mod Text
pub mod Due
pub mod Steps
