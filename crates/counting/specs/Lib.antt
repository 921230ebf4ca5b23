pub mod Nodes
pub mod Change
pub mod Places
pub mod Graph
