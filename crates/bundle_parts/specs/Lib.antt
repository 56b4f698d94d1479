pub mod Late
pub mod Feed
pub mod Parts
pub mod Private
