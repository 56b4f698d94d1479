pub mod Turns
pub mod Arms
pub mod Loud
pub mod Passing
pub mod Lifted
