pub mod Values
pub mod Ghost
pub mod Here
pub mod Needs
pub mod Known
pub mod Tally
