pub mod Defined
pub mod UnitSteps
pub mod FileNames
pub mod Appending
pub mod Misread
pub mod OneOutcome
pub mod Reported
