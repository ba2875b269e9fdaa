pub mod Lettered
pub mod Mailed
