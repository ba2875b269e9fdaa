pub mod Orders
pub mod Halves
pub mod Edits
pub mod Priorities
pub mod Sums
