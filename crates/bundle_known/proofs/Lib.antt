pub mod Laws
pub mod Runs
pub mod Resume
pub mod Stepped
