pub mod Arithmetic
pub mod Condition
pub mod Cut
pub mod Expression
pub mod Readers
pub mod Reads
pub mod Front
