pub mod Laws
pub mod Steps
pub mod Compare
pub mod Examples
