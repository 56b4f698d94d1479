pub mod Rel
pub mod Private
