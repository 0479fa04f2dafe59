pub mod Found
pub mod Memory
pub mod Names
pub mod Outside
