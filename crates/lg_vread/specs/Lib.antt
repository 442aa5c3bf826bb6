pub mod Reading
pub mod Lexing
pub mod Limits
