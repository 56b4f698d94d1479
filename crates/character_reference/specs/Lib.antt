pub mod Written
pub mod Names
pub mod Reference
pub mod Table
