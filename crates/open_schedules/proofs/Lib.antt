pub mod WeekLemmas
pub mod PlaceLemmas
pub mod HourLemmas
pub mod FixedLemmas
