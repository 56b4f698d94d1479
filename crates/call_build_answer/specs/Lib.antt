pub mod Built
pub mod Rendered
pub mod Private
