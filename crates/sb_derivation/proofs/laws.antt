pub mod Beginnings
pub mod Fresh
pub mod Heads
