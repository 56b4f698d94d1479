pub mod Signature
pub mod Signed
