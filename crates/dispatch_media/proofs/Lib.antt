pub mod Enters
pub mod Names
pub mod Exits
