pub use Rattle.alarm_rules.specs.Setups
pub mod Lines
pub mod Said
pub mod Entries
pub mod Keyed
pub mod Standing
pub mod Accounts
