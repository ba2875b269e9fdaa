pub use Rattle.line_gate.specs.Groups
pub use Rattle.line_gate.specs.AtGates
