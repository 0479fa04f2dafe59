pub mod tokens
pub mod laws
pub mod steps
pub mod widening
pub mod deepening
