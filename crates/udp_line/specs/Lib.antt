pub mod Datagrams
pub mod Mails
