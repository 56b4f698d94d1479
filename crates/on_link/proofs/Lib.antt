pub mod Lifted
pub mod Chains
