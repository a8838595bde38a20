pub mod Nodes
pub mod Circles
pub mod Levels
