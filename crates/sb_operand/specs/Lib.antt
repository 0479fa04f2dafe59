pub mod Pieces
pub mod Readers
pub mod Meaning
