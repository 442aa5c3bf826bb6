pub mod Segment
pub mod Joined
pub mod Rays
pub mod Links
pub mod Forest
pub mod Rows
pub mod Shares
