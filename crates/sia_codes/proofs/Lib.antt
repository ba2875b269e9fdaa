pub mod Grammar
pub mod Numbers
pub mod Runs
pub mod Steps
pub mod Sweeps
