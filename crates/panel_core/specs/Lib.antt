pub mod Standing
pub mod Sending
