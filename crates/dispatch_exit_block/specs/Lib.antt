pub mod Exits
pub mod Private
