pub mod Layout
pub mod Stack
pub mod Readable
pub mod Agreement
pub mod InTime
