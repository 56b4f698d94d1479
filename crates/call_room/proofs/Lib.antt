pub mod Growth
pub mod Escaped
pub mod Urls
pub mod Calls
