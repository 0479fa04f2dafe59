pub mod Faults
pub mod Table
pub mod Arrays
pub mod Composite
pub mod CompositeLaws
pub mod Steps
