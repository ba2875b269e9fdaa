pub use Rattle.centre_rules.specs.Carrying
pub use Rattle.centre_rules.specs.Marks
pub mod Rows
pub mod Spared
pub mod Supervised
pub mod Roomed
