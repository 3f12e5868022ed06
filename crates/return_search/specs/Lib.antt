pub mod Chained
pub mod Told
pub mod Shape
pub mod Backward
pub mod Search
pub mod Stays
pub mod Flagged
pub mod Stored
