pub mod Counts
pub mod Good
pub mod Laws
pub mod Promise
