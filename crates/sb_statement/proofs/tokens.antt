pub mod Begins
pub mod Declarations
pub mod Names
