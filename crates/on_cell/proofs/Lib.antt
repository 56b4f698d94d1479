pub mod Either
pub mod Leaves
pub mod Cells
mod Empty
