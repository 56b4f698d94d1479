pub mod Numbered
pub mod Cut
