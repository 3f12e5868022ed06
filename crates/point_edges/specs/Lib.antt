pub mod Callees
pub mod Jumps
pub mod Entries
pub mod Straight
pub mod Tables
pub mod Entered
