pub mod Definition
pub mod Matches
pub mod Texts
