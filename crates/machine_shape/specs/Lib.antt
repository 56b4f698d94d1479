pub mod Facts
pub mod Shape
pub mod Acts
pub mod Fits
pub mod Kinds
pub mod Right
pub mod Grown
pub mod Pass
