pub mod Fitting
pub mod OneReading
pub mod Reading
pub mod Settling
pub mod Splices
pub mod Standing
pub mod Literals
pub mod Spelling
