pub mod Growing
pub mod laws
pub mod steps
