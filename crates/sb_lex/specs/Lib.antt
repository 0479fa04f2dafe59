pub mod Splicing
pub mod Items
pub mod Cursors
pub mod Values
pub mod Lexing
pub mod Faults
pub mod Tables
pub mod Places
