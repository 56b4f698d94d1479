pub mod Run
pub mod Inverse
pub mod Split
