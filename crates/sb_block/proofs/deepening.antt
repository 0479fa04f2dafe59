pub mod Each
pub mod Entering
pub mod Items
pub mod Shrinks
pub mod Statements
