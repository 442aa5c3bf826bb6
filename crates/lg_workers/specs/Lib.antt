pub mod Draws
pub mod Claims
pub mod Answers
