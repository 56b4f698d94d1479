pub mod Idle
pub mod Reach
pub mod Walks
