pub mod Specifiers
