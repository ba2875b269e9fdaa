pub use Rattle.arc_io.specs.Seen
pub mod Texts
pub mod Places
pub mod Drills
