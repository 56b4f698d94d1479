pub mod Machine
pub mod Records
