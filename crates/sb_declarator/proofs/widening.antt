pub mod Declarators
pub mod Members
