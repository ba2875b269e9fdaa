pub mod Agreement
pub mod FirstNumbers
pub mod Unmet
pub mod WordLemmas
