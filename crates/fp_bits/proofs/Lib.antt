pub mod Steps
pub mod Weights
pub mod NewDigits
pub mod Splits
