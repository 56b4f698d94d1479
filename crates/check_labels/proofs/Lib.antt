pub mod Steps
pub mod Signatures
pub mod Next
pub mod Uses
pub mod Laws
