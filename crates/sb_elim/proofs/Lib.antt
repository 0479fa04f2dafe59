pub mod Passing
pub mod Reversed
pub mod Rising
pub mod Turns
