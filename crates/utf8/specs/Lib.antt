pub mod Table
pub mod Wanted
pub mod Utf8
pub mod Private
