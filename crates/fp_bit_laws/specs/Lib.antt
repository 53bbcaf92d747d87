pub mod Spelled
pub mod Compared
pub mod Bills
