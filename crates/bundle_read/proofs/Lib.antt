pub mod Bundle
pub mod Inverse
pub mod Examples
