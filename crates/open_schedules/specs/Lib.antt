pub use Rattle.alarm_rules.specs.Weeks
pub use Rattle.civil_time.specs.ZonedMinutes
pub mod Minutes
pub mod Kept
pub mod Laws
