pub mod Euclid
pub mod Trial
pub mod Ring
pub mod Solve
pub mod Bits
pub mod Residue
pub mod Sums
