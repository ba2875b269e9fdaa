pub use Rattle.zone_rules.specs.Zones
pub use Rattle.zone_rules.specs.ZonedTime
pub use Rattle.arc_data.specs.Moments
pub mod Calendar
pub mod Stamp
pub mod ZonedMinutes
pub mod Laws
