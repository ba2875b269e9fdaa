pub mod DateLemmas
pub mod StampLemmas
pub mod ZoneLemmas
pub mod SpanLemmas
