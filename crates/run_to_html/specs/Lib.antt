pub mod Renders
pub mod Private
