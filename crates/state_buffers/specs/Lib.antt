pub mod Stand
pub mod Private
