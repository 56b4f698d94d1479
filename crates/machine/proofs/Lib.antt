pub mod Outcomes
pub mod Running
pub mod Answers
pub mod Examples
pub mod CodeText
pub mod Pushes
