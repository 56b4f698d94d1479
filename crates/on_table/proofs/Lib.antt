pub mod Columns
pub mod Asked
