pub mod Setext
