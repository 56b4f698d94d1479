pub mod Section
pub mod Start
pub mod End
pub mod Both
