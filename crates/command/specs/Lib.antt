pub mod Refusals
pub mod Tape
pub mod Decide
pub mod Answers
pub mod Listed
