pub mod Normalized
