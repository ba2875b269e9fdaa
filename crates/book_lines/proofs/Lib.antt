pub mod BookLemmas
pub mod WordLemmas
pub mod MomentLemmas
pub mod LocalLemmas
