pub mod Limits
pub mod Bodies
pub mod Kinds
pub mod Refusals
