pub mod Codes
pub mod Events
pub mod Fields
pub mod Parts
pub mod Readers
