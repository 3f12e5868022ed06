pub mod Added
pub mod Code
pub mod FaultText
pub mod InsnLists
pub mod Known
pub mod Listed
pub mod Refused
