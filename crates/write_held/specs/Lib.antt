pub mod Parts
pub mod Private
pub mod Show
