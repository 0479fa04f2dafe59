pub mod Barring
pub mod Commas
pub mod Enumerations
pub mod Keywords
pub mod More
pub mod Names
pub mod Specifiers
pub mod Tags
