pub mod Tight
pub mod Private
pub mod Word
