pub mod Ends
pub mod Shapes
pub mod Questions
