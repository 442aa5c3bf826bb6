pub mod Pieces
pub mod Told
pub mod Parts
pub mod Forms
