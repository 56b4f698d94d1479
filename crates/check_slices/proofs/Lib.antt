pub mod Rules
pub mod First
pub mod Laws
