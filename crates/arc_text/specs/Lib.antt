pub mod Comparisons
pub mod LineCutting
pub mod LineHolding
pub mod Lines
pub mod Words
pub use Rattle.arc_data.specs.Digits
