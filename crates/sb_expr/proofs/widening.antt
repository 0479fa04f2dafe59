pub mod EachDepth
pub mod Expressions
pub mod Starts
pub mod TypeNames
