pub mod Quoted
pub mod Firsts
pub mod Watched
