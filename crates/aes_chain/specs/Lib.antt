pub mod Field
pub mod State
pub mod Schedule
pub mod Cipher
pub mod Chain
pub mod Words
pub mod Laws
