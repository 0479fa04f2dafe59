pub mod Items
pub mod Elements
pub mod Points
pub mod Asked
pub mod Bytes
pub mod Regions
pub mod Stepped
pub mod Tidied
