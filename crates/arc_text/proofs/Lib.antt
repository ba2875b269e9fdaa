pub mod Decimals
pub mod DigitPairs
pub mod Digits
pub mod LineCutterLaws
pub mod LineLaws
pub mod Words
