pub mod DriverSteps
pub mod PartSteps
pub mod SteppingLemmas
pub mod Evaluations
pub mod Busy
pub mod Runs
pub mod Endings
pub mod Tables
