pub mod Reaching
pub mod Targets
