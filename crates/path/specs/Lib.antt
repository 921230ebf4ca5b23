pub mod Graph
pub mod Standing
