pub mod Known
pub mod Step
