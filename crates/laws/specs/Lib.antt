pub mod Law
pub mod Runs
pub mod History
pub mod Bill
pub mod Claims
