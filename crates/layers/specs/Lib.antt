pub mod Quoted
pub mod Watched
