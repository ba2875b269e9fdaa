pub use Rattle.jiff_tz.specs.PosixReader
pub mod Zones
pub mod Daylight
pub mod ZonedTime
pub mod Laws
