pub mod Worked
pub mod WorkedBytes
pub mod WorkedEffects
