pub mod Checked
pub mod Stairs
