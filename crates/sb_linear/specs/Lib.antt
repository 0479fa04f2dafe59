pub mod Scopes
pub mod Sizes
pub mod Meaning
pub mod Laws
