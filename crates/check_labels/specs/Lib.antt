pub mod Labels
pub mod Signature
pub mod Next
pub mod Uses
