pub use Rattle.arc_io.specs.Told
pub use Rattle.centre_rules.specs.State
pub mod Reports
