pub mod Acts
pub mod Takes
