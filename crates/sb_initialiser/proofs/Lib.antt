pub mod Steps
pub mod deepening
pub mod laws
pub mod telling
pub mod widening
