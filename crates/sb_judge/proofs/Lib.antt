pub mod Steps
pub mod Soundness
