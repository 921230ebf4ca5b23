pub mod Quiet
pub mod Slots
pub mod Inputs
