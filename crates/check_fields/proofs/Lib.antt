pub mod First
pub mod Cases
pub mod Laws
pub mod Meet
