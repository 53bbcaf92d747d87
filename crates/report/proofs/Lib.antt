pub mod Terms
pub mod Pages
