pub mod Grammar
pub mod Tag
pub mod Nests
pub mod Pass
pub mod Tables
pub mod Moved
