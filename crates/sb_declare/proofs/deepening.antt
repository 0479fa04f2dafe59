pub mod Barred
pub mod Declarations
pub mod Each
pub mod Readers
pub mod Void
