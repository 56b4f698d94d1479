pub mod Limits
pub mod Laws
pub mod Given
pub mod Exactly
