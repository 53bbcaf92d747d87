pub mod Loops
pub mod Folds
pub mod Walks
