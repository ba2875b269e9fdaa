pub use Rattle.alarm_rules.specs.Setups
pub use Rattle.dc09_frame.specs.Headers
pub use Rattle.dc09_frame.specs.Frames
pub mod Blocks
pub mod Contents
pub mod Reading
pub mod Verdicts
