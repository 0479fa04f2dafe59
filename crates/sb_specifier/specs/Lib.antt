pub mod Specified
pub mod Readers
pub mod Declaration
pub mod Sizes
pub mod Meaning
pub mod Parts
pub mod Reasons
