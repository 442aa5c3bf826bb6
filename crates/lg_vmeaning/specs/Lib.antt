pub mod Solution
pub mod Rows
pub mod Ports
pub mod InOrder
pub mod Valid
pub mod Compiled
pub mod ByName
pub mod Starting
