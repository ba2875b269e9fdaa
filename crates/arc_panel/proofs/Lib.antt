pub mod Meanings
pub mod SaidLines
pub mod Texting
pub mod Lining
pub mod Fed
pub mod Pieces
