pub mod laws
pub mod telling
pub mod widening
pub mod deepening
