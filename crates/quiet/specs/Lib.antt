pub mod Slots
pub mod Inputs
