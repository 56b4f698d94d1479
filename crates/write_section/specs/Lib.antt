pub mod Pages
pub mod Clauses
