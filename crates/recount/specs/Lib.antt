pub mod Walks
pub mod Recounts
