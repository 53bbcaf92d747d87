pub mod Growth
pub mod Undone
pub mod Then
pub mod Added
