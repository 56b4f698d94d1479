pub mod Own
pub mod CodeText
pub mod Autolinks
