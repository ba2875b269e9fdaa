pub mod Lists
pub mod Spelling
pub mod Fields
pub mod Conditions
pub mod Laws
pub mod OneAlarm
