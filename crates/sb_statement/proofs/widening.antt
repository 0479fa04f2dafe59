pub mod Crowded
pub mod Starts
pub mod Typed
