pub mod Sums
pub mod Window
pub mod Keeps
pub mod Whole
pub mod Steps
pub mod Past
pub mod Places
pub mod Ended
