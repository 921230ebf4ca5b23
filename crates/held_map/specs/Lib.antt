pub mod Bits
pub mod Map
pub mod Lists
pub mod Left
