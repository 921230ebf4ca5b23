pub mod Places
pub mod Strides
pub mod Whole
