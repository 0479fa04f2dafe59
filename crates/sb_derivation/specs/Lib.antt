pub mod Declarators
pub mod Meaning
pub mod Parts
