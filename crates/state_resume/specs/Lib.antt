pub mod Written
pub mod Private
