pub mod Count
pub mod Extend
pub mod Operands
pub mod Order
pub mod Product
pub mod Quotient
pub mod Shift
pub mod Sum
