pub mod Steps
pub mod Sames
pub mod Grown
pub mod Quiet
pub mod Marked
pub mod Tables
pub mod Standing
pub mod Stood
