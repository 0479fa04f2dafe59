pub mod Crowded
pub mod Named
