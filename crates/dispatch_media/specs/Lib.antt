pub mod Enters
pub mod Exits
