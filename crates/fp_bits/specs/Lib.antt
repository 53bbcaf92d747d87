pub mod Digits
pub mod Bits
pub mod Listed
