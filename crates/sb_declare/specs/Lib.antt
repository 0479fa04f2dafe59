pub mod Declaration
pub mod Readers
pub mod Openings
pub mod Reads
