pub mod Log
pub mod Call
pub mod Stream
