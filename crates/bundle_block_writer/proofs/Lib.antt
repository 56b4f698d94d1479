pub mod Block
pub mod Run
