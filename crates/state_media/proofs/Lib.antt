pub mod Held
pub mod Newest
pub mod Known
pub mod Stored
