pub use Rattle.centre_rules.specs.Answers
pub mod Windows
