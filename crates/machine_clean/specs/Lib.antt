pub mod Clean
pub mod Ours
pub mod Section
pub mod Turns
