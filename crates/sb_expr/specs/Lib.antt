pub mod Expression
pub mod Readers
pub mod Meaning
pub mod Parts
pub mod Reads
pub mod Reasons
pub mod Calls
