pub mod Spellings
pub mod Notes
pub mod Readers
pub mod Reads
pub mod Reasons
pub mod Meaning
pub mod Parts
