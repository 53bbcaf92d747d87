pub mod Bits
pub mod Bills
