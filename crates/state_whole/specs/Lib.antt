pub mod Quiet
pub mod Whole
pub mod Lacking
