pub mod Declarations
pub mod Initialised
pub mod Judging
pub mod Listed
pub mod Readers
pub mod Rests
pub mod Scoped
pub mod Scoping
