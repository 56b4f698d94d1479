pub mod Turns
pub mod Passing
pub mod Loud
