pub mod Indexed
pub mod Kept
pub mod Numbers
pub mod Opened
pub mod Places
pub mod Rising
pub mod Told
pub mod Walk
