pub mod Facts
pub mod EntryWarns
pub mod ObjectFacts
pub mod Law
pub mod Table
pub mod PointWarns
pub mod Verdict
