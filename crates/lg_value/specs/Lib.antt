pub mod Bit
pub mod Drivers
pub mod Storage
pub mod Word
