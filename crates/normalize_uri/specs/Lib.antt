pub mod Private
pub mod Url
