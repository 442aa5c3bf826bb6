pub mod Buckets
pub mod Kept
pub mod Levels
pub mod NumberSet
pub mod Numbering
pub mod Order
pub mod Pending
pub mod Row
