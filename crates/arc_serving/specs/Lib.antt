pub use Rattle.line_session.specs.Lines
pub use Rattle.line_session.specs.Groups
pub use Rattle.desk_session.specs.Desks
pub use Rattle.line_gate.specs.AtGates
pub use Rattle.line_gate.specs.Groups as GroupGates
pub mod Sessions
pub mod Served
pub mod Next
pub mod Works
pub mod Ticks
pub mod Ran
pub mod Jobs
pub mod Seen
pub mod Closing
pub mod Serving
