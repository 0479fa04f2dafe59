pub mod Entry
pub mod Splits
pub mod Walks
pub mod Laws
