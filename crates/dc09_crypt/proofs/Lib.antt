pub mod Openings
pub mod UpperDigits
pub mod AckBodies
pub mod StampBytes
pub mod OpenedAcks
