pub mod Clashes
pub mod Marks
pub mod Turns
pub mod Ways
