pub mod Book
pub mod State
pub mod Tape
pub mod Action
