pub mod Chains
pub mod Levels
pub mod Marking
pub mod Edges
pub mod Begins
pub mod Ascending
pub mod ClashLemmas
