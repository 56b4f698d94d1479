pub mod Exits
pub mod Group
