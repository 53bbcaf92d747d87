pub mod Cells
pub mod Adding
pub mod Going
pub mod Sums
pub mod Keeps
