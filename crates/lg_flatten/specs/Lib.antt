pub mod Uses
pub mod Flat
