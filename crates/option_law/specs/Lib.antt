pub mod Frames
pub mod Branches
pub mod Access
pub mod Worked
