pub mod Sizes
pub mod Kept
pub mod Clauses
pub mod Private
