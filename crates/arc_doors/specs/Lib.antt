pub mod Doors
pub mod Mails
pub mod Pulses
pub mod Memory
pub mod MailMemory
pub mod Within
