pub mod Links
pub mod Private
