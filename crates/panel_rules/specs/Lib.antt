pub mod Marks
pub mod Panels
