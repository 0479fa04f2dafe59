pub mod Initialiser
pub mod Readers
pub mod Initialisers
