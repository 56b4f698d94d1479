pub mod Sizes
pub mod Regions
pub mod Private
