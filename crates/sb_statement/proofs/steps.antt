pub mod Barred
pub mod Declarations
pub mod Levels
pub mod Lists
