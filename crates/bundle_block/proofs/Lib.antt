pub mod Block
pub mod Words
pub mod Check
pub mod Lanes
pub mod Rows
pub mod Counted
pub mod Inverse
