pub mod Turns
pub mod Sessions
pub mod Replies
pub mod Lines
pub mod Completeness
pub mod Dues
pub mod Groups
