pub mod Kary
pub mod Walk
pub mod Calls
