pub mod Block
pub mod Lanes
