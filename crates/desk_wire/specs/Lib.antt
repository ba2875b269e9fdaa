pub mod Commands
pub mod Laws
pub mod Names
pub mod Replies
