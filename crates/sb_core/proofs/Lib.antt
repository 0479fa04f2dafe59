pub mod Beginning
pub mod Sorts
pub mod Gathering
pub mod Sorting
mod Nodes
pub mod Rounding
pub mod Spelled
