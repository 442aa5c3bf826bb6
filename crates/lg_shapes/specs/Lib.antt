pub mod Arithmetic
pub mod Gates
pub mod Plexers
pub mod Reads
pub mod Shapes
pub mod Wiring
