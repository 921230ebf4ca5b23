pub mod Hold
pub mod Slots
