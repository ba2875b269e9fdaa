pub mod Combining
pub mod RowReading
pub mod IncidentReading
pub mod Whole
pub mod Flat
pub mod Times
pub mod Opened
pub mod ReadWhole
