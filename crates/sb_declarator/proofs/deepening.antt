pub mod Declarators
pub mod Members
pub mod Shrinks
pub mod Shrinking
