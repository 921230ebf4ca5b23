pub mod Tests
pub mod Frame
pub mod Members
pub mod Copy
pub mod Levels
