pub mod Enters
pub mod Private
