pub mod Passing
pub mod Private
