pub mod Chains
pub mod Declarations
pub mod Expressions
pub mod First
pub mod Fits
pub mod Jumps
