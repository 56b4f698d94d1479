pub mod Byte
pub mod Private
