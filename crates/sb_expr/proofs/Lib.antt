pub mod tokens
pub mod laws
pub mod telling
pub mod widening
pub mod Tying
pub mod Deeper
pub mod Leaving
pub mod Entering
