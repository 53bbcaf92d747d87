pub mod Numbers
pub mod Bills
