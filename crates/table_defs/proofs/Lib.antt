pub mod LastRow
pub mod WalkLaws
pub mod OneSection
pub mod AmongOthers
mod WorkedPlacement
