pub mod Nodes
pub mod Depths
