pub mod Counts
pub mod Maps
pub mod Changes
pub mod Unique
