pub mod Lifted
pub mod Labels
pub mod Bodies
pub mod Calls
pub mod Counted
pub mod Written
