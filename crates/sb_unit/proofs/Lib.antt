pub mod laws
pub mod steps
pub mod telling
pub mod widening
pub mod deepening
