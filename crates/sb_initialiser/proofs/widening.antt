pub mod Initialisers
