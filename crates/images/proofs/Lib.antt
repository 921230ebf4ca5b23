pub mod Listing
pub mod Record
pub mod Loaded
pub mod Stored
pub mod Size
pub mod Theorems
pub mod Passes
pub mod Laying
