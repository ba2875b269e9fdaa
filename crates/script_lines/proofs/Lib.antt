pub mod Spellings
pub mod Asking
