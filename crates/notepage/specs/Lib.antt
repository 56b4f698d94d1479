pub mod Shows
pub mod Came
