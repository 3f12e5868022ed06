pub mod Shape
pub mod Tells
