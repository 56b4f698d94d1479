pub mod Quiet
pub mod Parts
pub mod Lifts
pub mod Media
pub mod Shown
pub mod Lacking
pub mod Over
