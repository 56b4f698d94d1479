pub mod Dashes
pub mod Released
