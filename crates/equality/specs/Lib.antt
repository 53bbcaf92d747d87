pub mod Inequality
