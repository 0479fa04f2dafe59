pub mod Bodies
pub mod Externals
