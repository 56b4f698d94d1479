pub mod Parts
pub mod Call
pub mod Inverse
pub mod Examples
