pub mod Rounding
pub mod Knowing
pub mod Fixed
