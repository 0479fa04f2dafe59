pub mod Externals
pub mod Units
