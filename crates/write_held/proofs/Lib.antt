pub mod Pushed
pub mod Copied
pub mod Showing
pub mod Pages
pub mod Steady
