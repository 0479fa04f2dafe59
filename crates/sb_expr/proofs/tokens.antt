pub mod Begins
pub mod Bracketed
pub mod Ends
pub mod More
