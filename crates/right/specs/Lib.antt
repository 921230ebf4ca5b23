pub mod Ledger
pub mod Counts
pub mod Runs
