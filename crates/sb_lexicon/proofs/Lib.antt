pub mod Lexemes
pub mod Marks
pub mod Depths
pub mod Wider
pub mod Grounds
pub mod Loops
pub mod laws
pub mod Spelled
