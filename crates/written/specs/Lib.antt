pub mod Cells
pub mod Keeps
