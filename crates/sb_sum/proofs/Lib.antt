pub mod Merging
pub mod Ordering
pub mod Products
pub mod Values
