pub mod Definitions
pub mod Private
