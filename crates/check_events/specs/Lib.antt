pub mod Looked
pub mod Walk
