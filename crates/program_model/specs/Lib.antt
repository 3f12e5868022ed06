pub mod Program
pub mod Placement
pub mod Region
pub mod StateRow
pub mod Ways
