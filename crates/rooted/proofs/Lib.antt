pub mod Slots
pub mod Roots
pub mod Flushed
pub mod Grown
