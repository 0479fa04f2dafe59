-- What macros are, and how they are expanded.
pub mod Adding
pub mod Arguments
pub mod Definition
pub mod Defines
pub mod Endings
pub mod Expansion
pub mod Halts
pub mod Macros
pub mod Marks
pub mod Places
pub mod Reading
pub mod Replacement
pub mod Replacing
pub mod Slots
pub mod Taking
pub mod Tokens
