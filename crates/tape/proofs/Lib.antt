pub mod Executes
pub mod Primes
pub mod Tapes
pub mod Gathered
