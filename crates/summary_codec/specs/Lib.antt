pub use Rattle.summary_rules.specs.Conditions
pub mod Reading
pub mod OneSpelling
pub mod Writing
pub mod Heads
pub mod Parts
