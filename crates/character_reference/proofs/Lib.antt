pub mod Put
pub mod Ascent
pub mod Compared
pub mod Entries
pub mod Laws
pub mod Numbers
pub mod Options
pub mod Search
