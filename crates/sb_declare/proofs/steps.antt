pub mod Pardons
pub mod Readers
pub mod Sharing
