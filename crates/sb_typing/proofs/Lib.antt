pub mod Tested
pub mod Powers
pub mod Bits
pub mod Conversions
pub mod Depths
pub mod TypeLaws
