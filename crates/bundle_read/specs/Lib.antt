pub mod Sizes
pub mod Bundle
pub mod Read
