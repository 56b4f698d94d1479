pub mod Footnotes
pub mod Private
