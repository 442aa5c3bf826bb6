pub mod Cells
pub mod Index
pub mod Kinds
pub mod Latest
pub mod PortTable
pub mod Rows
pub mod Table
pub mod TableFile
