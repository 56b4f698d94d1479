pub mod First
pub mod Slices
pub mod Counts
