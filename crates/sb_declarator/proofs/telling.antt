pub mod Declarators
pub mod Parts
