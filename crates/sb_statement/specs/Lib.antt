pub mod Meaning
pub mod Parts
pub mod Readers
pub mod Reasons
pub mod Statement
