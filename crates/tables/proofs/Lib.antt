pub mod Kept
pub mod Search
pub mod Values
