pub mod Standing
pub mod Stands
