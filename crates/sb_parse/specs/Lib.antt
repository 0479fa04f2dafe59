pub mod Parser
pub mod Lawful
pub mod Read
pub mod Descent
pub mod Texts
