pub mod Answers
pub mod Declarations
pub mod Initialised
