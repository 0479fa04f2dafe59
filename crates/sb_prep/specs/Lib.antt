pub mod Ending
pub mod Tokens
pub mod Converting
pub mod Unit
pub mod Stopping
pub mod Standing
pub mod Reading
pub mod Outcomes
