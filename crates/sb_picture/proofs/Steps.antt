pub mod Closing
pub mod Absorbing
pub mod Placing
pub mod Exits
pub mod Assuming
