pub mod Laws
pub mod Cuts
