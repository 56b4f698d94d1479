pub mod Written
pub mod Pieces
