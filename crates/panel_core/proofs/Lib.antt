pub mod Ranges
pub mod Fates
pub mod Found
pub mod Kept
pub mod Sends
pub mod Calls
pub mod Bodies
