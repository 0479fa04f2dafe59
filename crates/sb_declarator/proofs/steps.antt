pub mod Declarators
pub mod Members
pub mod Parameters
pub mod Parts
