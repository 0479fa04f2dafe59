pub mod Parts
pub mod Readers
pub mod Reads
pub mod Reasons
pub mod Units
