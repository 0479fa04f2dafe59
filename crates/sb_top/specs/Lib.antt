pub mod Texts
pub mod Words
pub mod Stands
pub mod Sets
pub mod Outcomes
pub mod Asked
