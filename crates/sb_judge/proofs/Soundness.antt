pub mod Sequel
pub mod Stores
pub mod Split
pub mod Entered
pub mod Walked
pub mod Sound
pub mod Answered
