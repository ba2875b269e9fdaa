pub mod Years
pub mod Nanos
pub mod Windows
pub mod Changes
pub mod FixedZones
