pub mod Counts
pub mod RowLemmas
