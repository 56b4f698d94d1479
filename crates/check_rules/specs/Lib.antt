pub mod Elements
pub mod Rules
