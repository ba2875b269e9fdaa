pub use Rattle.arc_data.specs.Digits
pub use Rattle.dc09_frame.specs.Frames
pub mod Lines
pub mod Reading
