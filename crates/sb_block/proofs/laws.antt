pub mod Blocks
pub mod Cases
pub mod Items
pub mod Iteration
pub mod Labels
pub mod Selection
pub mod Statements
pub mod Tying
