pub mod Turns
pub mod Totals
