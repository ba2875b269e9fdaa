pub use Rattle.arc_data.specs.WellFormed
pub use Rattle.arc_io.specs.Added
pub use Rattle.centre_rules.specs.Answers
pub use Rattle.centre_core.specs.Halls
pub mod Inputs
pub mod Reading
pub mod Turns
pub mod Sessions
