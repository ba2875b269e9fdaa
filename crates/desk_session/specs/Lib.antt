pub use Rattle.alarm_rules.specs.Setups
pub use Rattle.centre_rules.specs.Answers
pub mod Asking
pub mod Desks
pub mod Events
pub mod Holding
pub mod Sessions
pub mod Turns
