pub mod Form
pub mod Elements
pub mod Served
