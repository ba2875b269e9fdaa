pub mod Keeping
pub mod Appended
pub mod Made
pub mod Joined
pub mod Ahead
pub mod Ports
pub mod Inputs
