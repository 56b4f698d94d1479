pub mod Protocols
pub mod Url
