pub mod Edits
pub mod Room
pub mod Cost
pub mod Passed
