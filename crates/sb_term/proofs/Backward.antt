pub mod Exact
pub mod Points
pub mod Between
pub mod Standing
pub mod Placing
pub mod Eliminating
pub mod Starting
pub mod Refuting
