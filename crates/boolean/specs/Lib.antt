pub mod Booleans
