pub mod Idle
pub mod Follow
pub mod Walked
pub mod Nested
