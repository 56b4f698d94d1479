pub mod Laws
pub mod Turned
mod Left
