pub mod Identity
pub mod Left
pub mod Search
