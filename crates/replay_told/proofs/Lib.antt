pub mod Machine
pub mod Log
