pub mod Entry
pub mod Refusals
pub mod Topics
pub mod Volumes
