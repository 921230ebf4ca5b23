pub mod Walks
pub mod Trees
pub mod Paths
pub mod Accepted
