pub mod InTime
pub mod Settled
