pub mod Ways
pub mod Levels
