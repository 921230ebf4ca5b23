pub mod Going
pub mod Fresh
pub mod Gains
pub mod Sweep
