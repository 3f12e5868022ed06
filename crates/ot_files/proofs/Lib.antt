pub mod Sent
pub mod Entries
