pub mod Private
pub mod Byte
