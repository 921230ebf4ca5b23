pub mod Shapes
pub mod Questions
