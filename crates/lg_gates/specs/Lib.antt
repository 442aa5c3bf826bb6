pub mod Gate
pub mod Plexer
pub mod Priority
pub mod Selector
pub mod Shape
