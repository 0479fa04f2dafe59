pub mod Signs
pub mod Spellings
