pub mod Writes
pub mod Shows
pub mod Leads
pub mod Titles
pub mod Whichever
pub mod Tests
pub mod Chains
pub mod Exits
