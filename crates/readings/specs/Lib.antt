pub mod Readings
pub mod Decision
pub mod State
pub mod Runs
