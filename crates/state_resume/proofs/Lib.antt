pub mod Parts
pub mod Written
pub mod Moves
pub mod Trimmed
