pub mod Things
pub mod Inside
pub mod Rules
pub mod Broken
pub mod Known
pub mod Depends
pub mod Indexes
pub mod Order
