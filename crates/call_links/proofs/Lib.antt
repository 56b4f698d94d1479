mod Size
mod Urls
mod Laws
pub mod Single
pub mod Each
