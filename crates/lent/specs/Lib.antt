pub mod Bytes
pub mod Fill
pub mod Private
pub mod Writer
