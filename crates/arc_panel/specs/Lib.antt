pub mod Lines
pub mod Reading
pub mod Texts
pub mod Ends
pub mod Playing
