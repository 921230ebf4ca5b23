pub mod Each
pub mod Counts
pub mod Changes
