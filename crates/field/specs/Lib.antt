pub mod Laws
pub mod Residues
pub mod Primes
pub mod Modulus
