pub mod Table
pub mod Run
pub mod Walk
pub mod Laws
pub mod Codes
pub mod Chars
pub mod Characters
