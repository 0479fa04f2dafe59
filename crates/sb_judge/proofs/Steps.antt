pub mod Turns
pub mod Exits
pub mod Walking
pub mod Judged
pub mod Entering
pub mod Splitting
