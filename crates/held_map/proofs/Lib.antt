pub mod Bits
pub mod Map
pub mod Lists
pub mod Numbers
pub mod Lowest
pub mod Frees
