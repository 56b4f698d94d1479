pub mod Schemes
mod Before
mod Encoded
pub mod Judged
