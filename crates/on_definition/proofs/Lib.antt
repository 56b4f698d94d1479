pub mod Sought
pub mod Seeks
pub mod Stays
pub mod Pieces
pub mod Keeps
